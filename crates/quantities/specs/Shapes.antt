-- A shape's record reported, and its quantities coded.
use Rattle.std.specs.Prelude.{◌≡◌, List, zero, suc, pos, length, get_or, replicate, Result, IfOk}
use Rattle.ground.specs.Answers.{outcome_number}
use Rattle.ground.specs.declared.quantity.Nanodegrees.{Nanodegrees}
use Rattle.ground.specs.declared.refusals.Refusal.{Refusal}
use Rattle.fields.specs.Fields as field
use Rattle.layout.specs.declared.shape.Kind.TheVariants.{Nothing}
use Rattle.layout.specs.declared.shape.Shape.{Shape}
use Rattle.layout.specs.Layout.{Row, shape_rows}
use Rattle.layout.specs.Rows.{length_of}
use Rattle.layout.specs.Demands.{WriteAnswer}
use Rattle.layout.specs.Shapes.{rows_of, value_of, zero_latitude, zero_longitude}
use Rattle.quantities.specs.declared.shape.ShapeQuantities.{ShapeQuantities}
use Rattle.quantities.specs.Places.{PlaceCodes, PlaceQuantities, zero_code, zero_quantity}
use Rattle.quantities.specs.Places as place
use Rattle.quantities.specs.Promises.{EachReported, EachCoded, CodeAnswer}

-- ---- the codes and the quantities at a shape's places; a velocity's are zero

abbrev pub code_at : Shape → PlaceCodes
code_at x (place.latitude zero) = x.latitude
code_at x (place.latitude (suc i)) = get_or x.latitudes i zero_latitude
code_at x (place.longitude zero) = x.longitude
code_at x (place.longitude (suc i)) = get_or x.longitudes i zero_longitude
code_at x place.altitude = x.altitude
code_at x place.uncertainty = x.uncertainty
code_at x place.semi_major = x.semi_major
code_at x place.semi_minor = x.semi_minor
code_at x place.orientation = x.orientation
code_at x place.altitude_uncertainty = x.altitude_uncertainty
code_at x place.confidence = x.confidence
code_at x place.inner_radius = x.inner_radius
code_at x place.offset = x.offset
code_at x place.included = x.included
code_at x place.bearing = zero_code field.bearing
code_at x place.horizontal_speed = zero_code field.horizontal_speed
code_at x place.vertical_speed = zero_code field.vertical_speed
code_at x place.speed_uncertainty = zero_code field.uncertainty_speed
code_at x place.vertical_uncertainty = zero_code field.uncertainty_speed

abbrev pub zero_degrees : Nanodegrees
zero_degrees = record { 0 = pos 0 }

abbrev pub quantity_at : ShapeQuantities → PlaceQuantities
quantity_at q (place.latitude zero) = q.latitude
quantity_at q (place.latitude (suc i)) = get_or q.latitudes i zero_degrees
quantity_at q (place.longitude zero) = q.longitude
quantity_at q (place.longitude (suc i)) = get_or q.longitudes i zero_degrees
quantity_at q place.altitude = q.altitude
quantity_at q place.uncertainty = q.uncertainty
quantity_at q place.semi_major = q.semi_major
quantity_at q place.semi_minor = q.semi_minor
quantity_at q place.orientation = q.orientation
quantity_at q place.altitude_uncertainty = q.altitude_uncertainty
quantity_at q place.confidence = q.confidence
quantity_at q place.inner_radius = q.inner_radius
quantity_at q place.offset = q.offset
quantity_at q place.included = q.included
quantity_at q place.bearing = zero_quantity field.bearing
quantity_at q place.horizontal_speed = zero_quantity field.horizontal_speed
quantity_at q place.vertical_speed = zero_quantity field.vertical_speed
quantity_at q place.speed_uncertainty = zero_quantity field.uncertainty_speed
quantity_at q place.vertical_uncertainty = zero_quantity field.uncertainty_speed

-- the quantities of a refusal: of no kind, and all zero
abbrev pub no_shape : ShapeQuantities
no_shape = record {
  kind = Nothing;
  latitude = zero_degrees;
  longitude = zero_degrees;
  altitude = zero_quantity field.altitude;
  uncertainty = zero_quantity field.uncertainty;
  semi_major = zero_quantity field.uncertainty;
  semi_minor = zero_quantity field.uncertainty;
  orientation = zero_quantity field.orientation;
  altitude_uncertainty = zero_quantity field.altitude_uncertainty;
  confidence = zero_quantity field.confidence;
  inner_radius = zero_quantity field.inner_radius;
  offset = zero_quantity field.offset;
  included = zero_quantity field.included;
  count = 0;
  latitudes = replicate 15 zero_degrees;
  longitudes = replicate 15 zero_degrees;
}

-- ---- the promises

-- a record that the writer takes, room given
abbrev pub TakesShape : Shape → Type 0
TakesShape x = WriteAnswer (rows_of x) (value_of x) (length_of (rows_of x)) 0

-- the record's own quantities
pub record QuantitiesOf (x : Shape) (q : ShapeQuantities) : Type 0 where
  pub kinds : q.kind ≡ x.kind
  pub counts : q.count ≡ x.count
  pub all_latitudes : length q.latitudes ≡ 15
  pub all_longitudes : length q.longitudes ≡ 15
  pub each : EachReported (rows_of x) (code_at x) (quantity_at q)

-- a record that the writer would refuse, room given, is refused with the same number
pub record ReportsShape (x : Shape) (r : Result ShapeQuantities Refusal) : Type 0 where
  pub answer : WriteAnswer (rows_of x) (value_of x) (length_of (rows_of x)) (outcome_number r)
  pub quantities : IfOk r (QuantitiesOf x)

-- the rows of the quantities' own type
abbrev pub quantity_rows : ShapeQuantities → List Row
quantity_rows q = shape_rows q.kind q.count

-- the record of the quantities
pub record RecordOf (q : ShapeQuantities) (x : Shape) : Type 0 where
  pub kinds : x.kind ≡ q.kind
  pub counts : x.count ≡ q.count
  pub all_latitudes : length x.latitudes ≡ 15
  pub all_longitudes : length x.longitudes ≡ 15
  pub each : EachCoded (quantity_rows q) (quantity_at q) (code_at x)

pub record CodesShape (q : ShapeQuantities) (r : Result Shape Refusal) : Type 0 where
  pub answer : CodeAnswer (quantity_rows q) q.count (quantity_at q) (outcome_number r)
  pub shape : IfOk r (RecordOf q)
