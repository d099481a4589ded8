-- The quantities of the elements are put, and how many there are is said.
use mathlib.Core.Path.{refl}
use Prim.Native.Nat.{◌≤◌}
use native.Mathlib.Omega.{arith}
use lib.ListN.{length}
use Rattle.code_arrays.specs.Answers.{too_short, long_enough}
use Rattle.library.proofs.CallLaws.{report-said}
use Rattle.library.proofs.shape_calls.report_shape.Goals as goal

pub returns-then-codes-lt-CODES : goal.returns-then-codes-lt-CODES
returns-then-codes-lt-CODES c = too_short (omega arith) c.answer.ensures refl

pub returns : goal.returns
returns c =
    let long : 61 ≤ length c.args.codes.now = omega arith in
    long_enough long (report-said c.report-reported.ensures (rw c.and.ensures at c.answer-2.ensures))
