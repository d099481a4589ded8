-- What the inner function hands back is put.
use mathlib.Core.Path.{refl}
use native.Mathlib.Omega.{arith}
use Rattle.code_arrays.specs.Answers.{too_short, long_enough}
use Rattle.library.proofs.velocity_calls.code_velocity.Goals as goal

pub returns-then-quantities-lt-QUANTITIES : goal.returns-then-quantities-lt-QUANTITIES
returns-then-quantities-lt-QUANTITIES c = too_short (omega arith) c.answer.ensures refl

pub returns : goal.returns
returns c =
    long_enough (omega arith) (record { coded = c.coded_in.result; promise = c.coded_in.ensures; put = c.put_codes.ensures })
