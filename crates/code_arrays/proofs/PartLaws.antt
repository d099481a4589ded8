-- What a test decides of the elements of a part, by their places in the whole.
use mathlib.Core.Path.{◌≡◌}
use mathlib.Core.Bool.{Bool}
use Prim.Native.Nat.{ℕ, ◌+◌, ◌-◌, ◌≤◌, ◌<◌}
use native.Mathlib.Omega.{arith}
use Rattle.ground.specs.Answers.{Decides}
use Rattle.ground.proofs.AnswerLaws.{decided}

pub from-first : (P : ℕ → Type 0) (first n end : ℕ) → first + n ≡ end → (b : Bool) → Decides b ((k : ℕ) → k < n → P (first + k)) → Decides b ((k : ℕ) → first ≤ k → k < end → P k)
from-first P first n end e b =
    decided b
    (λ p k h l. let w : first + (k - first) ≡ k = omega arith in rw w at (p (k - first) (omega arith)))
    (λ p k h. p (first + k) (omega arith) (omega arith))
