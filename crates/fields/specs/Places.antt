-- THE PLACES OF THE FIELDS, from 0, in the order of document 01's table.
use Rattle.std.specs.Prelude.{ℕ}
use Rattle.fields.specs.Fields.{Field}
use Rattle.fields.specs.Fields as field

abbrev pub place_of : Field → ℕ
place_of field.latitude = 0
place_of field.longitude = 1
place_of field.uncertainty = 2
place_of field.altitude_uncertainty = 3
place_of field.altitude = 4
place_of field.inner_radius = 5
place_of field.offset = 6
place_of field.included = 7
place_of field.orientation = 8
place_of field.bearing = 9
place_of field.horizontal_speed = 10
place_of field.vertical_speed = 11
place_of field.uncertainty_speed = 12
place_of field.confidence = 13
