-- What the inner function hands back is put.
use mathlib.Core.Path.{refl}
use native.Mathlib.Omega.{arith}
use Rattle.code_arrays.specs.Answers.{too_short, long_enough}
use Rattle.library.proofs.velocity_calls.report_velocity.Goals as goal

pub returns-then-codes-lt-CODES : goal.returns-then-codes-lt-CODES
returns-then-codes-lt-CODES c = too_short (omega arith) c.answer.ensures refl

pub returns : goal.returns
returns c =
    long_enough (omega arith) (record { reported = c.reported_in.result; promise = c.reported_in.ensures; put = c.put_quantities.ensures })
