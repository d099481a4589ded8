-- A velocity's record reported, and its quantities coded.
use Rattle.std.specs.Prelude.{◌≡◌, Result, IfOk}
use Rattle.ground.specs.Answers.{outcome_number}
use Rattle.ground.specs.declared.refusals.Refusal.{Refusal}
use Rattle.fields.specs.Fields as field
use Rattle.layout.specs.declared.velocity.VelocityKind.TheVariants.{Nothing}
use Rattle.layout.specs.declared.velocity.Velocity.{Velocity}
use Rattle.layout.specs.Layout.{velocity_rows}
use Rattle.layout.specs.Rows.{length_of}
use Rattle.layout.specs.Demands.{WriteAnswer}
use Rattle.layout.specs.Velocities.{velocity_value_of}
use Rattle.quantities.specs.declared.velocity.VelocityQuantities.{VelocityQuantities}
use Rattle.quantities.specs.Places.{PlaceCodes, PlaceQuantities, zero_code, zero_quantity}
use Rattle.quantities.specs.Places as place
use Rattle.quantities.specs.Promises.{EachReported, EachCoded, CodeAnswer}

-- ---- the codes and the quantities at a velocity's places; a shape's are zero

abbrev pub velocity_code_at : Velocity → PlaceCodes
velocity_code_at x place.bearing = x.bearing
velocity_code_at x place.horizontal_speed = x.horizontal_speed
velocity_code_at x place.vertical_speed = x.vertical_speed
velocity_code_at x place.speed_uncertainty = x.uncertainty
velocity_code_at x place.vertical_uncertainty = x.vertical_uncertainty
velocity_code_at x (place.latitude i) = zero_code field.latitude
velocity_code_at x (place.longitude i) = zero_code field.longitude
velocity_code_at x place.altitude = zero_code field.altitude
velocity_code_at x place.uncertainty = zero_code field.uncertainty
velocity_code_at x place.semi_major = zero_code field.uncertainty
velocity_code_at x place.semi_minor = zero_code field.uncertainty
velocity_code_at x place.orientation = zero_code field.orientation
velocity_code_at x place.altitude_uncertainty = zero_code field.altitude_uncertainty
velocity_code_at x place.confidence = zero_code field.confidence
velocity_code_at x place.inner_radius = zero_code field.inner_radius
velocity_code_at x place.offset = zero_code field.offset
velocity_code_at x place.included = zero_code field.included

abbrev pub velocity_quantity_at : VelocityQuantities → PlaceQuantities
velocity_quantity_at q place.bearing = q.bearing
velocity_quantity_at q place.horizontal_speed = q.horizontal_speed
velocity_quantity_at q place.vertical_speed = q.vertical_speed
velocity_quantity_at q place.speed_uncertainty = q.uncertainty
velocity_quantity_at q place.vertical_uncertainty = q.vertical_uncertainty
velocity_quantity_at q (place.latitude i) = zero_quantity field.latitude
velocity_quantity_at q (place.longitude i) = zero_quantity field.longitude
velocity_quantity_at q place.altitude = zero_quantity field.altitude
velocity_quantity_at q place.uncertainty = zero_quantity field.uncertainty
velocity_quantity_at q place.semi_major = zero_quantity field.uncertainty
velocity_quantity_at q place.semi_minor = zero_quantity field.uncertainty
velocity_quantity_at q place.orientation = zero_quantity field.orientation
velocity_quantity_at q place.altitude_uncertainty = zero_quantity field.altitude_uncertainty
velocity_quantity_at q place.confidence = zero_quantity field.confidence
velocity_quantity_at q place.inner_radius = zero_quantity field.inner_radius
velocity_quantity_at q place.offset = zero_quantity field.offset
velocity_quantity_at q place.included = zero_quantity field.included

-- the quantities of a refusal: of no kind, and all zero
abbrev pub no_velocity : VelocityQuantities
no_velocity = record {
  kind = Nothing;
  bearing = zero_quantity field.bearing;
  horizontal_speed = zero_quantity field.horizontal_speed;
  vertical_speed = zero_quantity field.vertical_speed;
  uncertainty = zero_quantity field.uncertainty_speed;
  vertical_uncertainty = zero_quantity field.uncertainty_speed;
}

-- ---- the promises

-- a record that the writer takes, room given
abbrev pub TakesVelocity : Velocity → Type 0
TakesVelocity x = WriteAnswer (velocity_rows x.kind) (velocity_value_of x) (length_of (velocity_rows x.kind)) 0

-- the record's own quantities
pub record VelocityQuantitiesOf (x : Velocity) (q : VelocityQuantities) : Type 0 where
  pub kinds : q.kind ≡ x.kind
  pub each : EachReported (velocity_rows x.kind) (velocity_code_at x) (velocity_quantity_at q)

-- a record that the writer would refuse, room given, is refused with the same number
pub record ReportsVelocity (x : Velocity) (r : Result VelocityQuantities Refusal) : Type 0 where
  pub answer : WriteAnswer (velocity_rows x.kind) (velocity_value_of x) (length_of (velocity_rows x.kind)) (outcome_number r)
  pub quantities : IfOk r (VelocityQuantitiesOf x)

-- the record of the quantities
pub record VelocityRecordOf (q : VelocityQuantities) (x : Velocity) : Type 0 where
  pub kinds : x.kind ≡ q.kind
  pub each : EachCoded (velocity_rows q.kind) (velocity_quantity_at q) (velocity_code_at x)

pub record CodesVelocity (q : VelocityQuantities) (r : Result Velocity Refusal) : Type 0 where
  pub answer : CodeAnswer (velocity_rows q.kind) 0 (velocity_quantity_at q) (outcome_number r)
  pub velocity : IfOk r (VelocityRecordOf q)
