-- The flag says whether the elements passed are all 0.
use Prim.Native.Nat.{ℕ, ◌+◌, ◌<◌}
use mathlib.Core.Path.{◌≡◌}
use lib.IntN.{pos}
use Rattle.ground.specs.Answers.{Decides}
use Rattle.code_arrays.specs.QuantityNumbers.{quantity_in}
use Rattle.array_records.proofs.points.none_from.Given as goal

abbrev pub invariant-loop-element : goal.invariant-loop-element
invariant-loop-element l = Decides l.all ((k : ℕ) → k < l.element-index → quantity_in l.given (l.first + k) ≡ pos 0)
