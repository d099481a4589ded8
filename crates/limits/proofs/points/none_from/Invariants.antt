-- Whether each element passed is zero.
use Prim.Native.Nat.{ℕ, ◌+◌, ◌<◌}
use mathlib.Core.Path.{◌≡◌}
use Rattle.ground.specs.Answers.{Decides}
use Rattle.code_arrays.specs.CodeNumbers.{element_at}
use Rattle.limits.proofs.points.none_from.Given as goal

abbrev pub invariant-loop-code : goal.invariant-loop-code
invariant-loop-code l = Decides l.all ((k : ℕ) → k < l.code-index → element_at l.codes (l.first + k) ≡ 0)
