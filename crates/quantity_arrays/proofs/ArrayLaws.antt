-- A number that is stored in an element.
use mathlib.Core.Path.{◌≡◌, ◌∙◌}
use lib.IntN.{ℤ}
use mir.Syntax.{w64}
use mir.Val.{SFits, to_z, of_z}
use mir.Facts.{to_z-of_z}

-- a number that was stored as its bits is what it was
pub stored : {x y : ℤ} → x ≡ y → SFits w64 x → to_z w64 (of_z w64 x) ≡ y
stored e f = to_z-of_z f ∙ e
