-- WHAT A MESSAGE IS: its length, the bits of each row, and every other bit 0. That there is just one, the one that `message` works
-- out, is a law (proofs/JustOne.antt).
use Rattle.std.specs.Prelude.{◌≡◌, List, [], ◌∷◌, map, ℕ, ◌+◌, ◌*◌, ◌<◌, length, get_or}
use Rattle.octets.specs.Bits.{bit, bits}
use Rattle.layout.specs.declared.shape.Kind.TheVariants as shape
use Rattle.layout.specs.declared.velocity.VelocityKind.TheVariants as velocity
use Rattle.layout.specs.Layout.{Row, shape_rows, velocity_rows}
use Rattle.layout.specs.Rows.{All, length_of}
use Rattle.layout.specs.Spare.{Spare}

-- the number in a row's bits
abbrev pub in_row : List ℕ → Row → ℕ
in_row s r = bits s r.first r.width

-- the octets s are the message of these rows, each with its number
pub record IsMessage (rows : List Row) (number : Row → ℕ) (s : List ℕ) : Type 0 where
  pub octets : (i : ℕ) → get_or s i 0 < 256
  pub long : length s ≡ length_of rows
  pub each : All (λ r. in_row s r ≡ number r) rows
  pub spare : (k : ℕ) → Spare rows k → bit s k ≡ 0

-- two strings of octets, of one type, that differ in spare bits alone
pub record SameButSpare (rows : List Row) (s t : List ℕ) : Type 0 where
  pub long : length s ≡ length t
  pub types : bits s 0 4 ≡ bits t 0 4
  pub each : All (λ r. in_row s r ≡ in_row t r) rows

-- THE LENGTHS of shapes 0, 1, 3, 8, 9, 10 and velocities 0 to 3; a polygon of n points has 1 + 6n octets
pub record Lengths : Type 0 where
  pub fixed : map length_of (shape_rows shape.Point 0 ∷ shape_rows shape.Circle 0 ∷ shape_rows shape.Ellipse 0 ∷ shape_rows shape.AltitudePoint 0 ∷ shape_rows shape.AltitudeEllipsoid 0 ∷ shape_rows shape.Arc 0 ∷ velocity_rows velocity.Horizontal ∷ velocity_rows velocity.HorizontalVertical ∷ velocity_rows velocity.HorizontalUncertain ∷ velocity_rows velocity.HorizontalVerticalUncertain ∷ [])
      ≡ 7 ∷ 8 ∷ 11 ∷ 9 ∷ 14 ∷ 13 ∷ 4 ∷ 5 ∷ 5 ∷ 7 ∷ []
  pub polygon : (n : ℕ) → length_of (shape_rows shape.Polygon n) ≡ 1 + 6 * n
