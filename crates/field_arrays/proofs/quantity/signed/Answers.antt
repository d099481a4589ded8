-- `quantity::signed` meets its contract: the first of two elements is a bit, and the second the number.
use native.Mathlib.Omega.{arith}
use Rattle.field_arrays.proofs.FieldLaws.{signed-said}
use Rattle.field_arrays.proofs.quantity.signed.Goals as goal

pub returns : goal.returns
returns c = signed-said c.args.field c.args.code.now c.reported_signed.result (omega arith) (omega arith) c.reported_signed.ensures
