-- What a match on a number has told where its arms 0, 1, .., n - 1 are past.
use mathlib.Core.Path.{◌≡◌}
use Prim.Native.Nat.{ℕ, zero, suc, ◌≤◌}
use native.Mathlib.Omega.{arith}

-- the number is none of theirs
abbrev pub Passed : ℕ → ℕ → Type 0
Passed zero k = Unit
Passed (suc n) k = Passed n k × (k ≡ n → ⊥)

pub passed : (n k : ℕ) → Passed n k → n ≤ k
passed zero k p = omega arith
passed (suc n) k p = let l : n ≤ k = passed n k p.0 in omega (arith, p.1)
