-- What a type doesn't use: a sign goes with its number, and a code that is in its field is zero.
use Prim.Native.Nat.{ℕ, zero, suc, ◌+◌, ◌*◌, ◌^◌, ◌≤◌, ◌<◌}
use mathlib.Core.Path.{◌≡◌, refl, sym}
use mathlib.Core.Bool.{Bool, true, false}
use mathlib.Core.List.{List}
use native.Mathlib.Omega.{arith}
use lib.Dec.{ltb}
use lib.IntN.{ℤ, pos}
use borrow.Author.Tests.{ltb-true, ltb-false}
use Rattle.octets.specs.Codes.{bit_of, complement}
use Rattle.octets.proofs.ComplementLaws.{complement-one}
use Rattle.layout.specs.declared.shape.Kind.{Kind}
use Rattle.layout.specs.declared.shape.Kind.TheVariants as shape
use Rattle.layout.specs.declared.shape.Shape.{Shape}
use Rattle.layout.specs.declared.velocity.VelocityKind.{VelocityKind}
use Rattle.layout.specs.declared.velocity.VelocityKind.TheVariants as velocity
use Rattle.layout.specs.declared.velocity.Velocity.{Velocity}
use Rattle.layout.specs.Layout.{MessageField, Row, shape_rows, velocity_rows}
use Rattle.layout.specs.Layout as layout
use Rattle.layout.specs.Rows.{tag, width_of}
use Rattle.layout.specs.Demands.{Used, InFields}
use Rattle.layout.specs.Shapes.{rows_of, value_of}
use Rattle.layout.specs.Velocities.{velocity_value_of}
use Rattle.layout.proofs.KindLaws.{points_of, point-width, no-point-width}
use Rattle.layout.proofs.PolygonLaws.{point-row, none_found}
use Rattle.quantities.specs.Places.{Place, field_of, row_of, Unused, zero_code}
use Rattle.quantities.specs.Places as place
use Rattle.quantities.specs.Shapes.{code_at}
use Rattle.quantities.specs.Velocities.{velocity_code_at}

-- a field is used, or it isn't
pub by-use : (rows : List Row) (f : MessageField) (P : Type 0) → (Used rows f → P) → (Unused rows f → P) → P
by-use rows f P used unused = by (ltb 0 (width_of rows f)) refl
  where
    by : (b : Bool) → ltb 0 (width_of rows f) ≡ b → P
    by true e = used (ltb-true 0 (width_of rows f) e)
    by false e = let l : width_of rows f ≤ 0 = ltb-false 0 (width_of rows f) e in unused (omega arith)

-- ---- a polygon's points: the first n are used

pub used-point : (k : Kind) (n i : ℕ) (f : MessageField) → 3 * i + 22 ≤ tag f → Used (shape_rows k n) f → i < points_of k n
used-point k n i f h u = by (ltb i (points_of k n)) refl
  where
    by : (b : Bool) → ltb i (points_of k n) ≡ b → i < points_of k n
    by true e = ltb-true _ _ e
    by false e =
        let l : points_of k n ≤ i = ltb-false _ _ e in
        let w = no-point-width k n f (omega arith) (omega arith) in
        absurd (omega arith)

-- the rows r of a point that is after the last, as `point-row` numbers them
pub unused-point : (k : Kind) (n r i : ℕ) → 0 < (point-row r i).width → Unused (shape_rows k n) (point-row r i).field → points_of k n ≤ i
unused-point k n r i h e = by (ltb i (points_of k n)) refl
  where
    by : (b : Bool) → ltb i (points_of k n) ≡ b → points_of k n ≤ i
    by true f = let w = point-width k n r i (ltb-true _ _ f) in absurd (omega arith)
    by false f = ltb-false _ _ f

-- what is no polygon's has no count
pub points-counted : (k : Kind) (n : ℕ) → (Unused (shape_rows k n) layout.count → n ≡ 0) → points_of k n ≡ n
points-counted shape.Nothing n h = sym (h refl)
points-counted shape.Point n h = sym (h refl)
points-counted shape.Circle n h = sym (h refl)
points-counted shape.Ellipse n h = sym (h refl)
points-counted shape.Polygon n h = refl
points-counted shape.AltitudePoint n h = sym (h refl)
points-counted shape.AltitudeEllipsoid n h = sym (h refl)
points-counted shape.Arc n h = sym (h refl)

-- ---- a sign is used where its number is

south-unused : (k : Kind) (n i : ℕ) → Unused (shape_rows k n) (layout.latitude i) → Unused (shape_rows k n) (layout.south i)
south-unused shape.Nothing n zero e = refl
south-unused shape.Point n zero e = absurd (omega arith)
south-unused shape.Circle n zero e = absurd (omega arith)
south-unused shape.Ellipse n zero e = absurd (omega arith)
south-unused shape.Polygon n zero e = none_found n (layout.south 0) (omega arith) (λ m. absurd (omega arith))
south-unused shape.AltitudePoint n zero e = absurd (omega arith)
south-unused shape.AltitudeEllipsoid n zero e = absurd (omega arith)
south-unused shape.Arc n zero e = absurd (omega arith)
south-unused k n (suc i) e = let l = unused-point k n 1 i (omega arith) e in no-point-width k n (layout.south (suc i)) (omega arith) (omega arith)

depth-unused : (k : Kind) (n : ℕ) → Unused (shape_rows k n) layout.altitude → Unused (shape_rows k n) layout.depth
depth-unused shape.Nothing n e = refl
depth-unused shape.Point n e = refl
depth-unused shape.Circle n e = refl
depth-unused shape.Ellipse n e = refl
depth-unused shape.Polygon n e = none_found n layout.depth (omega arith) (λ m. absurd (omega arith))
depth-unused shape.AltitudePoint n e = absurd (omega arith)
depth-unused shape.AltitudeEllipsoid n e = absurd (omega arith)
depth-unused shape.Arc n e = refl

down-unused : (k : VelocityKind) → Unused (velocity_rows k) layout.vertical_speed → Unused (velocity_rows k) layout.down
down-unused velocity.Nothing e = refl
down-unused velocity.Horizontal e = refl
down-unused velocity.HorizontalVertical e = absurd (omega arith)
down-unused velocity.HorizontalUncertain e = refl
down-unused velocity.HorizontalVerticalUncertain e = absurd (omega arith)

-- ---- the codes

pub no_number : (rows : List Row) (value : MessageField → ℕ) → InFields rows value → (f : MessageField) → Unused rows f → value f ≡ 0
no_number rows value h f e = let l : value f < 2 ^ 0 = rw e at (h.each f) in omega arith

no_sign : (b : Bool) → bit_of b ≡ 0 → b ≡ false
no_sign true e = absurd (omega arith)
no_sign false e = refl

no-turn : (z : ℤ) → complement z ≡ 0 → z ≡ pos 0
no-turn z e = complement-one z (pos 0) (omega arith) e

module _ (x : Shape) (h : InFields (rows_of x) (value_of x)) where
  number : (f : MessageField) → Unused (rows_of x) f → value_of x f ≡ 0
  number = no_number (rows_of x) (value_of x) h

  pub counted-points : points_of x.kind x.count ≡ x.count
  counted-points = points-counted x.kind x.count (number layout.count)

  pub unused-code : (p : Place) → Unused (rows_of x) (row_of p) → code_at x p ≡ zero_code (field_of p)
  unused-code (place.latitude zero) e =
      let s = no_sign x.latitude.0 (number (layout.south 0) (south-unused x.kind x.count 0 e)) in
      λ j. record { 0 = s j; 1 = number (layout.latitude 0) e j }
  unused-code (place.latitude (suc i)) e =
      let s = no_sign (code_at x (place.latitude (suc i))).0 (number (layout.south (suc i)) (south-unused x.kind x.count (suc i) e)) in
      λ j. record { 0 = s j; 1 = number (layout.latitude (suc i)) e j }
  unused-code (place.longitude zero) e = λ j. record { 0 = no-turn x.longitude.0 (number (layout.longitude 0) e) j }
  unused-code (place.longitude (suc i)) e = λ j. record { 0 = no-turn (code_at x (place.longitude (suc i))).0 (number (layout.longitude (suc i)) e) j }
  unused-code place.altitude e =
      let s = no_sign x.altitude.0 (number layout.depth (depth-unused x.kind x.count e)) in
      λ j. record { 0 = s j; 1 = number layout.altitude e j }
  unused-code place.uncertainty e = λ j. record { 0 = number layout.uncertainty e j }
  unused-code place.semi_major e = λ j. record { 0 = number layout.semi_major e j }
  unused-code place.semi_minor e = λ j. record { 0 = number layout.semi_minor e j }
  unused-code place.orientation e = λ j. record { 0 = number layout.orientation e j }
  unused-code place.altitude_uncertainty e = λ j. record { 0 = number layout.altitude_uncertainty e j }
  unused-code place.confidence e = λ j. record { 0 = number layout.confidence e j }
  unused-code place.inner_radius e = λ j. record { 0 = number layout.inner_radius e j }
  unused-code place.offset e = λ j. record { 0 = number layout.offset e j }
  unused-code place.included e = λ j. record { 0 = number layout.included e j }
  unused-code place.bearing e = refl
  unused-code place.horizontal_speed e = refl
  unused-code place.vertical_speed e = refl
  unused-code place.speed_uncertainty e = refl
  unused-code place.vertical_uncertainty e = refl

module _ (x : Velocity) (h : InFields (velocity_rows x.kind) (velocity_value_of x)) where
  motion-number : (f : MessageField) → Unused (velocity_rows x.kind) f → velocity_value_of x f ≡ 0
  motion-number = no_number (velocity_rows x.kind) (velocity_value_of x) h

  pub unused-motion : (p : Place) → Unused (velocity_rows x.kind) (row_of p) → velocity_code_at x p ≡ zero_code (field_of p)
  unused-motion (place.latitude i) e = refl
  unused-motion (place.longitude i) e = refl
  unused-motion place.altitude e = refl
  unused-motion place.uncertainty e = refl
  unused-motion place.semi_major e = refl
  unused-motion place.semi_minor e = refl
  unused-motion place.orientation e = refl
  unused-motion place.altitude_uncertainty e = refl
  unused-motion place.confidence e = refl
  unused-motion place.inner_radius e = refl
  unused-motion place.offset e = refl
  unused-motion place.included e = refl
  unused-motion place.bearing e = λ j. record { 0 = motion-number layout.bearing e j }
  unused-motion place.horizontal_speed e = λ j. record { 0 = motion-number layout.horizontal_speed e j }
  unused-motion place.vertical_speed e =
      let s = no_sign x.vertical_speed.0 (motion-number layout.down (down-unused x.kind e)) in
      λ j. record { 0 = s j; 1 = motion-number layout.vertical_speed e j }
  unused-motion place.speed_uncertainty e = λ j. record { 0 = motion-number layout.speed_uncertainty e j }
  unused-motion place.vertical_uncertainty e = λ j. record { 0 = motion-number layout.vertical_uncertainty e j }
