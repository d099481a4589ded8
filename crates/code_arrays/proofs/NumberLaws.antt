-- The numbers of elements.
use mathlib.Core.Path.{◌≡◌}
use Prim.Native.Nat.{ℕ, ◌≤◌, ◌<◌}
use lib.IntN.{ℤ, pos, negsuc, nat_abs}
use lib.Signed.{mag}
use borrow.Author.Tests.{lt-ltb, le-ltb}
use mir.Syntax.{w64}
use mir.Val.{to_z, of_z}
use mir.Facts.{to_z-of_z}
use Rattle.code_arrays.specs.CodeNumbers.{capped}
use Rattle.code_arrays.specs.QuantityNumbers.{Natural32, natural_of}

-- a number that its cap leaves
pub under : {largest n : ℕ} → n ≤ largest → n ≡ capped largest n
under {largest} {n} h = simp (le-ltb largest n h)

-- a quantity by its size
pub natural-is : (z : ℤ) → Natural32 z → nat_abs z ≡ natural_of z
natural-is (pos n) h = simp (lt-ltb n 4294967296 h)
natural-is (negsuc n) h = absurd h

-- an element that was read is what it was
pub element-read : {z : ℤ} → mag z < 9223372036854775808 → to_z w64 (of_z w64 z) ≡ z
element-read h = to_z-of_z {w = w64} (record { sfits = h })
