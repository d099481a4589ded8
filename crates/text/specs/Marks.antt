-- The first of a kind of octet, from a place on.
use Rattle.std.specs.Prelude.{◌≡◌, ℕ, ◌<◌, ◌≤◌, List, length, ◌≢◌, slice_index}

-- r is the place of the first mark in s from `from` on, or the length of s where there is none
pub record FirstMark (mark : ℕ) (s : List ℕ) (from r : ℕ) : Type 0 where
  pub after : from ≤ r
  pub inside : r ≤ length s
  pub found : r < length s → slice_index s r ≡ mark
  pub first : (k : ℕ) → k < r → from ≤ k → slice_index s k ≢ mark

-- no mark stands from `from` up to `end`
pub record NoMark (mark : ℕ) (s : List ℕ) (from end : ℕ) : Type 0 where
  pub none : (k : ℕ) → k < end → from ≤ k → slice_index s k ≢ mark
