-- A table of 128 numbers, and the first of its places at which it is at least x.
use Rattle.std.specs.Prelude.{List, ℕ, ◌+◌, ◌≤◌, ◌<◌, get_or}

abbrev pub Rising : List ℕ → Type 0
Rising xs = (p q : ℕ) → p ≤ q → q < 128 → get_or xs p 0 ≤ get_or xs q 0

-- the first place at which xs is at least x is k or one of the `more` after it
pub record Among (xs : List ℕ) (x k more : ℕ) : Type 0 where
  pub place : k + more ≤ 127
  pub here : x ≤ get_or xs (k + more) 0
  pub none : (j : ℕ) → j < k → get_or xs j 0 < x

abbrev pub FirstAt : List ℕ → ℕ → ℕ → Type 0
FirstAt xs x k = Among xs x k 0
