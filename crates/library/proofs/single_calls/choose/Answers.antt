-- The request that the elements say is chosen for.
use Rattle.std.proofs.lemmas.Result.{IfOk-weaker}
use mathlib.Core.Path.{refl}
use native.Mathlib.Omega.{arith}
use Rattle.code_arrays.specs.Answers.{too_short, long_enough}
use Rattle.library.proofs.CallLaws.{chosen-within}
use Rattle.library.specs.Promises.{no_request, chosen}
use Rattle.library.proofs.single_calls.choose.Goals as goal

pub returns-then-request-lt8 : goal.returns-then-request-lt8
returns-then-request-lt8 c = too_short (omega arith) c.answer.ensures refl

pub returns-in_default : goal.returns-in_default
returns-in_default c =
    long_enough (omega arith) (no_request (rw c.in_default.is at c.request_in.ensures) c.answer-in_default.ensures refl)

pub answer-requires-2 : goal.answer-requires-2
answer-requires-2 c = IfOk-weaker c.choose-written.result _ _ (λ n h. omega (arith, h)) (chosen-within c.choose-written.result c.choose-written.ensures)

pub returns : goal.returns
returns c =
    long_enough (omega arith) (chosen c.choose-written.result c.in-Ok.ensures c.choose-written.ensures c.answer-2.ensures)
