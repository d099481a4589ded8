-- No field is wider than its code: numbers that are in their fields are codes.
use Prim.Native.Nat.{ℕ, zero, suc, ◌^◌, ◌≤◌, ◌<◌}
use mathlib.Core.Path.{◌≡◌, refl}
use mathlib.Core.Bool.{Bool, true, false, cond, ◌&&◌}
use mathlib.Core.List.{List, [], ◌∷◌}
use native.Mathlib.Omega.{arith}
use native.Mathlib.Nat.{lt_of_lt_of_le}
use lib.Dec.{eqb, leb}
use lib.Pow.{pow_mono}
use borrow.Author.Tests.{eqb-true, leb-true}
use Rattle.layout.specs.declared.shape.Kind.{Kind}
use Rattle.layout.specs.declared.shape.Kind.TheVariants.{Nothing, Point, Circle, Ellipse, Polygon, AltitudePoint, AltitudeEllipsoid, Arc}
use Rattle.layout.specs.declared.velocity.VelocityKind.{VelocityKind}
use Rattle.layout.specs.declared.velocity.VelocityKind.TheVariants as velocity
use Rattle.layout.specs.Layout.{MessageField, Row, points, shape_rows, velocity_rows}
use Rattle.layout.specs.Layout as layout
use Rattle.layout.specs.Rows.{tag, width_of}
use Rattle.layout.specs.Demands.{InFields}
use Rattle.layout.proofs.FieldLaws.{tag_one}
use Rattle.layout.proofs.TidyLaws.{both}

-- ---- rows within given widths

module _ (widest : MessageField → ℕ) where
  abbrev within : List Row → Bool
  within [] = true
  within (r ∷ rs) = leb r.width (widest r.field) && within rs

  by_row : (b : Bool) (f g : MessageField) (w v : ℕ) → (b ≡ true → f ≡ g) → w ≤ widest g → v ≤ widest f → cond b w v ≤ widest f
  by_row true f g w v e h l = rw (e refl) h
  by_row false f g w v e h l = l

  width-within : (rs : List Row) → within rs ≡ true → (f : MessageField) → width_of rs f ≤ widest f
  width-within [] h f = omega arith
  width-within (r ∷ rs) h f =
      let b = both _ _ h in
      by_row (eqb (tag f) (tag r.field)) f r.field _ _ (λ e. tag_one f r.field (eqb-true _ _ e)) (leb-true _ _ b.0) (width-within rs b.1 f)

  below : (rs : List Row) → within rs ≡ true → (value : MessageField → ℕ) → InFields rs value → (f : MessageField) → value f < 2 ^ widest f
  below rs e value h f = lt_of_lt_of_le (h.each f) (pow_mono (width-within rs e f))

-- ---- shapes and velocities

-- the widest that a field is in any shape; a velocity's fields are in none
abbrev pub shape_widest : MessageField → ℕ
shape_widest layout.type_number = 4
shape_widest layout.count = 4
shape_widest (layout.south i) = 1
shape_widest (layout.latitude i) = 23
shape_widest (layout.longitude i) = 24
shape_widest layout.depth = 1
shape_widest layout.altitude = 15
shape_widest layout.uncertainty = 7
shape_widest layout.semi_major = 7
shape_widest layout.semi_minor = 7
shape_widest layout.orientation = 8
shape_widest layout.altitude_uncertainty = 7
shape_widest layout.confidence = 7
shape_widest layout.inner_radius = 16
shape_widest layout.offset = 8
shape_widest layout.included = 8
shape_widest layout.bearing = 0
shape_widest layout.horizontal_speed = 0
shape_widest layout.down = 0
shape_widest layout.vertical_speed = 0
shape_widest layout.speed_uncertainty = 0
shape_widest layout.vertical_uncertainty = 0

-- the same of velocities
abbrev pub velocity_widest : MessageField → ℕ
velocity_widest layout.type_number = 4
velocity_widest layout.count = 0
velocity_widest (layout.south i) = 0
velocity_widest (layout.latitude i) = 0
velocity_widest (layout.longitude i) = 0
velocity_widest layout.depth = 0
velocity_widest layout.altitude = 0
velocity_widest layout.uncertainty = 0
velocity_widest layout.semi_major = 0
velocity_widest layout.semi_minor = 0
velocity_widest layout.orientation = 0
velocity_widest layout.altitude_uncertainty = 0
velocity_widest layout.confidence = 0
velocity_widest layout.inner_radius = 0
velocity_widest layout.offset = 0
velocity_widest layout.included = 0
velocity_widest layout.bearing = 9
velocity_widest layout.horizontal_speed = 16
velocity_widest layout.down = 1
velocity_widest layout.vertical_speed = 8
velocity_widest layout.speed_uncertainty = 8
velocity_widest layout.vertical_uncertainty = 8

points-within : (i n : ℕ) → within shape_widest (points i n) ≡ true
points-within i zero = refl
points-within i (suc n) = points-within (suc i) n

shape-within : (k : Kind) (n : ℕ) → within shape_widest (shape_rows k n) ≡ true
shape-within Nothing n = refl
shape-within Point n = refl
shape-within Circle n = refl
shape-within Ellipse n = refl
shape-within Polygon n = points-within 0 n
shape-within AltitudePoint n = refl
shape-within AltitudeEllipsoid n = refl
shape-within Arc n = refl

velocity-within : (k : VelocityKind) → within velocity_widest (velocity_rows k) ≡ true
velocity-within velocity.Nothing = refl
velocity-within velocity.Horizontal = refl
velocity-within velocity.HorizontalVertical = refl
velocity-within velocity.HorizontalUncertain = refl
velocity-within velocity.HorizontalVerticalUncertain = refl

pub code_of : (k : Kind) (n : ℕ) (value : MessageField → ℕ) → InFields (shape_rows k n) value → (f : MessageField) → value f < 2 ^ shape_widest f
code_of k n = below shape_widest (shape_rows k n) (shape-within k n)

pub velocity-code-of : (k : VelocityKind) (value : MessageField → ℕ) → InFields (velocity_rows k) value → (f : MessageField) → value f < 2 ^ velocity_widest f
velocity-code-of k = below velocity_widest (velocity_rows k) (velocity-within k)

pub shape-width : (k : Kind) (n : ℕ) (f : MessageField) → width_of (shape_rows k n) f ≤ shape_widest f
shape-width k n = width-within shape_widest (shape_rows k n) (shape-within k n)

pub velocity-width : (k : VelocityKind) (f : MessageField) → width_of (velocity_rows k) f ≤ velocity_widest f
velocity-width k = width-within velocity_widest (velocity_rows k) (velocity-within k)
