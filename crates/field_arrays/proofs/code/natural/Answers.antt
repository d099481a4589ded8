-- `code::natural` meets its contract: the element is of 32 bits without a sign.
use borrow.Author.Rules.{rules}
use Rattle.field_arrays.proofs.FieldLaws.{natural-at, natural-given}
use Rattle.field_arrays.proofs.code.natural.Goals as goal

pub returns-in-0-to-4294967295 : goal.returns-in-0-to-4294967295
returns-in-0-to-4294967295 c =
    natural-given c.args.field c.args.quantity.0 _ _ (natural-at c.args.quantity.0 (search rules) (search rules) (search rules)) c.coded_unsigned.ensures
