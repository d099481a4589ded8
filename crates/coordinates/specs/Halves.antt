-- A signed number as what it is above zero and what it is below, and half a turn taken off.
use Rattle.std.specs.Prelude.{◌≡◌, ℕ, suc, ◌+◌, ℤ, pos, negsuc}

-- z is up z - down z
abbrev pub up : ℤ → ℕ
up (pos n) = n
up (negsuc n) = 0

abbrev pub down : ℤ → ℕ
down (pos n) = 0
down (negsuc n) = suc n

-- z is m - k
abbrev pub Less : ℤ → ℕ → ℕ → Type 0
Less z m k = up z + k ≡ down z + m
