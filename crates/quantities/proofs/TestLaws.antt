-- What a test shows that is passed, and one of a width.
use Prim.Native.Nat.{ℕ}
use mathlib.Core.Path.{◌≡◌}
use mathlib.Core.Bool.{Bool, true, false}
use native.Mathlib.Omega.{arith}
use lib.Dec.{ltb}
use borrow.Author.Tests.{ltb-false, le-ltb}

pub never : {A : Type 0} {b : Bool} → b ≡ true → b ≡ false → A
never e f = let z : ◌≡◌ {A = ℕ} 0 1 = cc in absurd (omega arith)

-- ---- a width and its test

pub no_bits : (w : ℕ) → w ≡ 0 → ltb 0 w ≡ false
no_bits w e = le-ltb 0 w (omega arith)

pub no-bits-back : (w : ℕ) → ltb 0 w ≡ false → w ≡ 0
no-bits-back w e = omega (arith, ltb-false 0 w e)
