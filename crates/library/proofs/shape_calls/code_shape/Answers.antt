-- The codes of the elements are put, and how many there are is said.
use mathlib.Core.Path.{refl}
use Prim.Native.Nat.{◌≤◌}
use native.Mathlib.Omega.{arith}
use lib.ListN.{length}
use Rattle.code_arrays.specs.Answers.{too_short, long_enough}
use Rattle.library.proofs.CallLaws.{code-said}
use Rattle.library.proofs.shape_calls.code_shape.Goals as goal

pub returns-then-quantities-lt-QUANTITIES : goal.returns-then-quantities-lt-QUANTITIES
returns-then-quantities-lt-QUANTITIES c = too_short (omega arith) c.answer.ensures refl

pub returns : goal.returns
returns c =
    let long : 44 ≤ length c.args.quantities.now = omega arith in
    long_enough long (code-said c.code-coded.ensures (rw c.and.ensures at c.answer-2.ensures))
