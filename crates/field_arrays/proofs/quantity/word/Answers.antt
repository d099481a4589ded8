-- `quantity::word` meets its contract: the first element holds the code.
use native.Mathlib.Omega.{arith}
use Rattle.field_arrays.proofs.FieldLaws.{word-said}
use Rattle.field_arrays.proofs.quantity.word.Goals as goal

pub returns : goal.returns
returns c = word-said c.args.field c.args.code.now _ (omega arith) c.reported_word.ensures
