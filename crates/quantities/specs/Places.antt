-- The places of a record: each has a code, whose field says what the codes and the quantities are, and stands in a row of the
-- layout table.
use Rattle.std.specs.Prelude.{false, List, ℕ, ◌≡◌, pos, Some, None}
use Rattle.fields.specs.Fields.{CodeOf, QuantityOf}
use Rattle.fields.specs.Fields as field
use Rattle.layout.specs.Layout.{Row}
use Rattle.layout.specs.Layout as layout
use Rattle.layout.specs.Rows.{width_of}

pub data Place : Type 0 where
  -- of the single point, 0, or of a polygon's points, from 1
  latitude longitude : ℕ → Place
  altitude uncertainty semi_major semi_minor orientation altitude_uncertainty confidence : Place
  inner_radius offset included : Place
  bearing horizontal_speed vertical_speed speed_uncertainty vertical_uncertainty : Place

-- what stands there
abbrev pub field_of : Place → field.Field
field_of (latitude i) = field.latitude
field_of (longitude i) = field.longitude
field_of altitude = field.altitude
field_of uncertainty = field.uncertainty
field_of semi_major = field.uncertainty
field_of semi_minor = field.uncertainty
field_of orientation = field.orientation
field_of altitude_uncertainty = field.altitude_uncertainty
field_of confidence = field.confidence
field_of inner_radius = field.inner_radius
field_of offset = field.offset
field_of included = field.included
field_of bearing = field.bearing
field_of horizontal_speed = field.horizontal_speed
field_of vertical_speed = field.vertical_speed
field_of speed_uncertainty = field.uncertainty_speed
field_of vertical_uncertainty = field.uncertainty_speed

-- the row of its number; a sign has a row of its own
abbrev pub row_of : Place → layout.MessageField
row_of (latitude i) = layout.latitude i
row_of (longitude i) = layout.longitude i
row_of altitude = layout.altitude
row_of uncertainty = layout.uncertainty
row_of semi_major = layout.semi_major
row_of semi_minor = layout.semi_minor
row_of orientation = layout.orientation
row_of altitude_uncertainty = layout.altitude_uncertainty
row_of confidence = layout.confidence
row_of inner_radius = layout.inner_radius
row_of offset = layout.offset
row_of included = layout.included
row_of bearing = layout.bearing
row_of horizontal_speed = layout.horizontal_speed
row_of vertical_speed = layout.vertical_speed
row_of speed_uncertainty = layout.speed_uncertainty
row_of vertical_uncertainty = layout.vertical_uncertainty

-- the code of every place, and the quantity of every place
abbrev pub PlaceCodes : Type 0
PlaceCodes = (p : Place) → CodeOf (field_of p)

abbrev pub PlaceQuantities : Type 0
PlaceQuantities = (p : Place) → QuantityOf (field_of p)

-- ---- what a type doesn't use

abbrev pub Unused : List Row → layout.MessageField → Type 0
Unused rows f = width_of rows f ≡ 0

abbrev pub zero_code : (f : field.Field) → CodeOf f
zero_code field.latitude = record { 0 = false; 1 = 0 }
zero_code field.longitude = record { 0 = pos 0 }
zero_code field.uncertainty = record { 0 = 0 }
zero_code field.altitude_uncertainty = record { 0 = 0 }
zero_code field.altitude = record { 0 = false; 1 = 0 }
zero_code field.inner_radius = record { 0 = 0 }
zero_code field.offset = record { 0 = 0 }
zero_code field.included = record { 0 = 0 }
zero_code field.orientation = record { 0 = 0 }
zero_code field.bearing = record { 0 = 0 }
zero_code field.horizontal_speed = record { 0 = 0 }
zero_code field.vertical_speed = record { 0 = false; 1 = 0 }
zero_code field.uncertainty_speed = record { 0 = 0 }
zero_code field.confidence = record { 0 = 0 }

-- the quantity that is zero; of a confidence, which is never 0 per cent, the missing one
abbrev pub zero_quantity : (f : field.Field) → QuantityOf f
zero_quantity field.latitude = record { 0 = pos 0 }
zero_quantity field.longitude = record { 0 = pos 0 }
zero_quantity field.uncertainty = record { 0 = 0 }
zero_quantity field.altitude_uncertainty = record { 0 = 0 }
zero_quantity field.altitude = record { 0 = pos 0 }
zero_quantity field.inner_radius = record { 0 = 0 }
zero_quantity field.offset = record { 0 = 0 }
zero_quantity field.included = record { 0 = 0 }
zero_quantity field.orientation = record { 0 = 0 }
zero_quantity field.bearing = record { 0 = 0 }
zero_quantity field.horizontal_speed = record { 0 = 0 }
zero_quantity field.vertical_speed = record { 0 = pos 0 }
zero_quantity field.uncertainty_speed = Some (record { 0 = 0 })
zero_quantity field.confidence = None
