-- The least size in a latitude step is its lower end, rounded up.
use mathlib.Core.Path.{◌≡◌}
use Prim.Native.Nat.{ℕ, ◌+◌, ◌*◌, ◌/◌, ◌<◌}
use native.Mathlib.Omega.{arith}
use Rattle.ground.specs.Sets.{LeastOf}
use Rattle.coordinates.specs.Latitude.{LatitudeStep}

pub least_size : (N : ℕ) → N < 8388608 → LeastOf (LatitudeStep 23 1000000000 N) ((N * 90000000000 + 8388607) / 8388608)
least_size N h = record {
  member = record { bits = omega arith; from = omega arith; below = λ l. omega arith; range = omega arith };
  least = λ b p. omega (arith, p.from);
}

-- the first step holds 1
pub one-first : (N a : ℕ) → a ≡ (N * 90000000000 + 8388607) / 8388608 → a ≡ 0 → LatitudeStep 23 1000000000 N 1
one-first N a e z = record { bits = omega arith; from = omega arith; below = λ l. omega arith; range = omega arith }
