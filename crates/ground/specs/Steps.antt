-- Sets of quantities that are steps of one unit, for the codes N from 0 to last.
use Rattle.std.specs.Prelude.{ℕ, ◌+◌, ◌*◌, ◌≤◌, ◌<◌}

-- unit·N ≤ a < unit·(N + 1)
pub record Step (unit last N a : ℕ) : Type 0 where
  pub code : N ≤ last
  pub from : unit * N ≤ a
  pub below : a < unit * (N + 1)

-- the same, and for the last N also all that is greater
pub record OpenStep (unit last N a : ℕ) : Type 0 where
  pub code : N ≤ last
  pub from : unit * N ≤ a
  pub below : N < last → a < unit * (N + 1)

-- unit·N < a ≤ unit·(N + 1)
pub record UpperStep (unit last N a : ℕ) : Type 0 where
  pub code : N ≤ last
  pub above : unit * N < a
  pub upto : a ≤ unit * (N + 1)

-- 1000·N - 500 ≤ h < 1000·N + 500 (from 0 for N = 0), and for the last N also all that is greater
pub record SpeedStep (last N h : ℕ) : Type 0 where
  pub code : N ≤ last
  pub from : 1000 * N ≤ h + 500
  pub below : N < last → h < 1000 * N + 500
