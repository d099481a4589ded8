-- Covering, against the exact fraction.
use Rattle.std.specs.Prelude.{ℕ, ◌*◌, ◌-◌, ◌^◌, ◌≤◌}

-- Code K covers every whole R ≤ scale·((num/den)^K - 1). Both sides stand here times den^K: no fraction and no rounding.
pub record Covers (scale num den K R : ℕ) : Type 0 where
  pub within : R * den ^ K ≤ scale * (num ^ K - den ^ K)
