-- What is reported of the two codes, one after the other.
use Rattle.fields.specs.Fields as field
use Rattle.text.proofs.WithinLaws.{after}
use Rattle.wording.proofs.NumberLaws.{reported, lent}
use borrow.Author.Rules.{rules}
use Rattle.wording.proofs.shape_text.put_position.Goals as goal

pub returns : goal.returns
returns c =
    after
    (reported field.latitude c.args.latitude c.latitude.result c.requires.latitude_bound c.latitude.ensures (lent c.latitude.result.0 (search rules) c.put_signed-next.ensures))
    (reported field.longitude c.args.longitude c.longitude.result c.requires.longitude_bound c.longitude.ensures (lent c.longitude.result.0 (search rules) c.put_signed.ensures))
