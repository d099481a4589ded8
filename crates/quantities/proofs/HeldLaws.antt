-- The fields of a record that the writer takes hold its codes: one law over its places.
use Prim.Native.Nat.{ℕ, zero, suc, ◌^◌, ◌≤◌, ◌<◌}
use mathlib.Core.Path.{◌≡◌, refl}
use mathlib.Core.Bool.{Bool, true, false}
use mathlib.Core.List.{List}
use native.Mathlib.Omega.{arith}
use lib.Dec.{ltb}
use lib.IntN.{ℤ, pos, negsuc}
use lib.Signed.{mag}
use borrow.Author.Tests.{ltb-true, ltb-false}
use Rattle.octets.specs.Codes.{complement}
use Rattle.fields.specs.Quantities.{Held}
use Rattle.layout.specs.declared.shape.Shape.{Shape}
use Rattle.layout.specs.declared.velocity.Velocity.{Velocity}
use Rattle.layout.specs.Layout.{MessageField, Row, velocity_rows}
use Rattle.layout.specs.Layout as layout
use Rattle.layout.specs.Rows.{width_of, length_of}
use Rattle.layout.specs.Demands.{Used, InFields, WriteAnswer, Sound}
use Rattle.layout.specs.Shapes.{rows_of, value_of}
use Rattle.layout.specs.Velocities.{velocity_value_of}
use Rattle.layout.proofs.DemandLaws.{sound}
use Rattle.layout.proofs.WidthLaws.{shape_widest, velocity_widest, code_of, velocity-code-of}
use Rattle.quantities.specs.Places.{Place, field_of}
use Rattle.quantities.specs.Places as place
use Rattle.quantities.specs.Shapes.{code_at, TakesShape}
use Rattle.quantities.specs.Velocities.{velocity_code_at, TakesVelocity}

sound-of : (rows : List Row) (value : MessageField → ℕ) → WriteAnswer rows value (length_of rows) 0 → Sound rows value
sound-of rows value t = (sound rows value (length_of rows) t).0

-- a number that is below a bound where it is used, and has no bits where it isn't
bounded : (rows : List Row) (value : MessageField → ℕ) (f : MessageField) (most : ℕ) → InFields rows value → 0 < most → (Used rows f → value f < most) → value f < most
bounded rows value f most h some used = by (ltb 0 (width_of rows f)) refl
  where
    by : (b : Bool) → ltb 0 (width_of rows f) ≡ b → value f < most
    by true e = used (ltb-true 0 (width_of rows f) e)
    by false e =
        let z : width_of rows f ≤ 0 = ltb-false 0 (width_of rows f) e in
        let w : width_of rows f ≡ 0 = omega arith in
        let l : value f < 2 ^ 0 = rw w at (h.each f) in
        omega arith

pub turn-held : (z : ℤ) → complement z < 16777216 → mag z < 8388608
turn-held (pos n) h = by (ltb n 8388608) refl
  where
    by : (b : Bool) → ltb n 8388608 ≡ b → n < 8388608
    by true e = ltb-true n 8388608 e
    by false e = absurd (omega (arith, rw e at h))
turn-held (negsuc n) h = by (ltb n 8388608) refl
  where
    by : (b : Bool) → ltb n 8388608 ≡ b → n < 8388608
    by true e = ltb-true n 8388608 e
    by false e = absurd (omega (arith, rw e at h))

-- ---- shapes

module _ (x : Shape) (t : TakesShape x) where
  pub taken : Sound (rows_of x) (value_of x)
  taken = sound-of (rows_of x) (value_of x) t

  number : (f : MessageField) → value_of x f < 2 ^ shape_widest f
  number = code_of x.kind x.count (value_of x) taken.fields

  below : (f : MessageField) (most : ℕ) → 0 < most → (Used (rows_of x) f → value_of x f < most) → value_of x f < most
  below f most = bounded (rows_of x) (value_of x) f most taken.fields

  pub shape-held : (p : Place) → Held (field_of p) (code_at x p)
  shape-held (place.latitude zero) = number (layout.latitude 0)
  shape-held (place.latitude (suc i)) = number (layout.latitude (suc i))
  shape-held (place.longitude zero) = turn-held x.longitude.0 (number (layout.longitude 0))
  shape-held (place.longitude (suc i)) = turn-held (code_at x (place.longitude (suc i))).0 (number (layout.longitude (suc i)))
  shape-held place.altitude = number layout.altitude
  shape-held place.uncertainty = number layout.uncertainty
  shape-held place.semi_major = number layout.semi_major
  shape-held place.semi_minor = number layout.semi_minor
  shape-held place.orientation = below layout.orientation 180 (omega arith) taken.angles.orientations
  shape-held place.altitude_uncertainty = number layout.altitude_uncertainty
  shape-held place.confidence = below layout.confidence 101 (omega arith) taken.sure.confidences
  shape-held place.inner_radius = number layout.inner_radius
  shape-held place.offset = below layout.offset 180 (omega arith) taken.angles.offsets
  shape-held place.included = below layout.included 180 (omega arith) taken.angles.includeds
  shape-held place.bearing = omega arith
  shape-held place.horizontal_speed = omega arith
  shape-held place.vertical_speed = omega arith
  shape-held place.speed_uncertainty = omega arith
  shape-held place.vertical_uncertainty = omega arith

  pub count_held : x.count ≤ 15
  count_held = let l : x.count < 16 = below layout.count 16 (omega arith) (λ u. let m = taken.counted.most u in omega arith) in omega arith

-- ---- velocities

module _ (x : Velocity) (t : TakesVelocity x) where
  pub motion-taken : Sound (velocity_rows x.kind) (velocity_value_of x)
  motion-taken = sound-of (velocity_rows x.kind) (velocity_value_of x) t

  motion-number : (f : MessageField) → velocity_value_of x f < 2 ^ velocity_widest f
  motion-number = velocity-code-of x.kind (velocity_value_of x) motion-taken.fields

  pub velocity-held : (p : Place) → Held (field_of p) (velocity_code_at x p)
  velocity-held place.bearing = bounded (velocity_rows x.kind) (velocity_value_of x) layout.bearing 360 motion-taken.fields (omega arith) motion-taken.angles.bearings
  velocity-held place.horizontal_speed = motion-number layout.horizontal_speed
  velocity-held place.vertical_speed = motion-number layout.vertical_speed
  velocity-held place.speed_uncertainty = motion-number layout.speed_uncertainty
  velocity-held place.vertical_uncertainty = motion-number layout.vertical_uncertainty
  velocity-held (place.latitude i) = omega arith
  velocity-held (place.longitude i) = omega arith
  velocity-held place.altitude = omega arith
  velocity-held place.uncertainty = omega arith
  velocity-held place.semi_major = omega arith
  velocity-held place.semi_minor = omega arith
  velocity-held place.orientation = omega arith
  velocity-held place.altitude_uncertainty = omega arith
  velocity-held place.confidence = omega arith
  velocity-held place.inner_radius = omega arith
  velocity-held place.offset = omega arith
  velocity-held place.included = omega arith
