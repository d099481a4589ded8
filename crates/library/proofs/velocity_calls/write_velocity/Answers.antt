-- The message of the elements is written, and its length said.
use Rattle.std.proofs.lemmas.Result.{IfOk-weaker}
use mathlib.Core.Path.{refl}
use native.Mathlib.Omega.{arith}
use Rattle.code_arrays.specs.Answers.{too_short, long_enough}
use Rattle.library.proofs.CallLaws.{written-within}
use Rattle.library.proofs.velocity_calls.write_velocity.Goals as goal

pub returns-then-codes-lt-CODES : goal.returns-then-codes-lt-CODES
returns-then-codes-lt-CODES c = too_short (omega arith) c.answer.ensures refl

pub answer-requires-2 : goal.answer-requires-2
answer-requires-2 c = IfOk-weaker c.write_elements-written.result _ _ (λ n h. omega (arith, h)) (written-within c.write_elements-written.result c.write_elements-written.ensures)

pub returns : goal.returns
returns c =
    long_enough (omega arith) (record { written = c.write_elements-written.result; promise = c.write_elements-written.ensures; said = c.answer-2.ensures })
