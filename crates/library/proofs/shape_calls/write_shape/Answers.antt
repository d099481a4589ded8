-- The message of the elements is written, and its length said.
use Rattle.std.proofs.lemmas.Result.{IfOk-weaker}
use mathlib.Core.Path.{refl}
use Prim.Native.Nat.{◌≤◌}
use native.Mathlib.Omega.{arith}
use lib.ListN.{length}
use Rattle.code_arrays.specs.Answers.{too_short, long_enough}
use Rattle.library.proofs.CallLaws.{written-within}
use Rattle.library.proofs.shape_calls.write_shape.Goals as goal

pub returns-then-codes-lt-CODES : goal.returns-then-codes-lt-CODES
returns-then-codes-lt-CODES c = too_short (omega arith) c.answer.ensures refl

pub answer-requires-2 : goal.answer-requires-2
answer-requires-2 c = IfOk-weaker c.write-written.result _ _ (λ n h. omega (arith, h)) (written-within c.write-written.result c.write-written.ensures)

pub returns : goal.returns
returns c =
    let long : 61 ≤ length c.args.codes.now = omega arith in
    long_enough long (record { written = c.write-written.result; promise = c.write-written.ensures; said = c.answer-2.ensures })
