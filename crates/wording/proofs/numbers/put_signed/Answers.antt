-- A space, and the number after it.
use native.Mathlib.Omega.{arith}
use Rattle.text.proofs.OutputLaws.{signed-most}
use Rattle.wording.specs.Numbers.{number_text}
use Rattle.text.proofs.WithinLaws.{octet-within, signed-within, after}
use borrow.Author.Rules.{rules}
use Rattle.wording.proofs.numbers.put_signed.Goals as goal

pub put_number-requires : goal.put_number-requires
put_number-requires c = omega (arith, signed-most c.args.x.0 (search rules), c.put_byte-next.ensures.place)

pub returns : goal.returns
unfolding number_text
returns c = after (octet-within c.put_byte-next.ensures) (signed-within {z = c.args.x.0} (search rules) c.put_number.ensures)
