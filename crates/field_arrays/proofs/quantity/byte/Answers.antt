-- `quantity::byte` meets its contract: the first element holds the code.
use native.Mathlib.Omega.{arith}
use Rattle.field_arrays.proofs.FieldLaws.{byte-said}
use Rattle.field_arrays.proofs.quantity.byte.Goals as goal

pub returns : goal.returns
returns c = byte-said c.args.field c.args.code.now _ (omega arith) c.reported_byte.ensures
