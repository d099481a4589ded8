-- `quantity::longitude` meets its contract: the first element holds the code's bits.
use native.Mathlib.Omega.{arith}
use Rattle.field_arrays.specs.Fields.{reported}
use Rattle.field_arrays.proofs.quantity.longitude.Goals as goal

pub returns : goal.returns
returns c = reported (record { one = omega arith; number = c.longitude_of.ensures }) c.reported_longitude.ensures
