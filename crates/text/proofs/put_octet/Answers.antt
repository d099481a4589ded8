-- A space and two digits, one after the other.
use Rattle.text.proofs.OctetLaws.{octet-put}
use Rattle.text.proofs.put_octet.Goals as goal

pub returns : goal.returns
returns c = octet-put c.args.octet c.put_byte-first.ensures c.digit_of.ensures c.put_byte-second.ensures c.digit_of-2.ensures c.put_byte.ensures
