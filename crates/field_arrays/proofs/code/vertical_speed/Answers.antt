-- `code::vertical_speed` meets its contract: the element is of 32 bits with a sign.
use borrow.Author.Rules.{rules}
use Rattle.field_arrays.specs.Fields.{coded}
use Rattle.field_arrays.proofs.FieldLaws.{signed-at}
use Rattle.field_arrays.proofs.code.vertical_speed.Goals as goal

pub returns-in-minus2147483648-to-2147483647 : goal.returns-in-minus2147483648-to-2147483647
returns-in-minus2147483648-to-2147483647 c = coded (signed-at c.args.quantity.0 (search rules) (search rules)) c.coded_vertical_speed.ensures
