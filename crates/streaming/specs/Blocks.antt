-- Octets moved to the start of a buffer.
use Rattle.std.specs.Prelude.{◌≡◌, ℕ, ◌-◌, List, take, drop}

-- the octets from `at` to `fill` stand at the start, and what stands behind as many places is as it was
pub record Shifted (before : List ℕ) (at fill : ℕ) (after : List ℕ) : Type 0 where
  pub moved : take (fill - at) after ≡ take (fill - at) (drop at before)
  pub rest : drop (fill - at) after ≡ drop (fill - at) before
