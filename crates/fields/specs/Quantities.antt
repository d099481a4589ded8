-- The quantity reported of a code, as a number: document 01's column "Quantity reported" worked out. That it is the quantity
-- which reporting promises is a law (`proofs/QuantityLaws.antt`).
use Rattle.std.specs.Prelude.{cond, ℕ, ◌+◌, ◌-◌, ◌*◌, ◌/◌, ◌<◌, eqb, ℤ, Some, None}
use Rattle.std.proofs.Math.IntN.{sub_ℕ}
use Rattle.std.specs.Int.Signed.{mag}
use Rattle.ground.specs.Counts.{angle_codes, bearing_codes, confidence_codes}
use Rattle.ground.specs.Signs.{signed}
use Rattle.coordinates.specs.Halves.{up, down}
use Rattle.radii.specs.Tables.{whole_part}
use Rattle.fields.specs.Fields.{Field, CodeOf, QuantityOf}
use Rattle.fields.specs.Fields as field

-- N·90 degrees / 2^23, rounded up to a whole nanodegree
abbrev pub latitude_size : ℕ → ℕ
latitude_size N = (N * 90000000000 + 8388607) / 8388608

-- N·360 degrees / 2^24, rounded up: from half a turn west of zero, where N + 2^23 is 0
abbrev pub longitude_quantity : ℤ → ℤ
longitude_quantity N = sub_ℕ (((up N + 8388608 - down N) * 360000000000 + 16777215) / 16777216) 180000000000

unfoldable pub quantity_of : (f : Field) → CodeOf f → QuantityOf f
quantity_of field.latitude c = record { 0 = signed c.0 (latitude_size c.1) }
quantity_of field.longitude c = record { 0 = longitude_quantity c.0 }
quantity_of field.uncertainty c = record { 0 = whole_part 10000 11 10 c.0 }
quantity_of field.altitude_uncertainty c = record { 0 = whole_part 45000 41 40 c.0 }
quantity_of field.altitude c = record { 0 = signed c.0 (1000 * c.1) }
quantity_of field.inner_radius c = record { 0 = 5000 * c.0 }
quantity_of field.offset c = record { 0 = 2000 * c.0 }
quantity_of field.included c = record { 0 = 2000 * (c.0 + 1) }
quantity_of field.orientation c = record { 0 = 1000 * c.0 }
quantity_of field.bearing c = record { 0 = 1000 * c.0 }
quantity_of field.horizontal_speed c = record { 0 = 1000 * c.0 }
quantity_of field.vertical_speed c = record { 0 = signed c.0 (1000 * c.1) }
quantity_of field.uncertainty_speed c = cond (eqb c.0 255) None (Some (record { 0 = 1000 * c.0 }))
quantity_of field.confidence c = cond (eqb c.0 0) None (Some (record { 0 = c.0 }))

-- a code that its field holds, and that has a quantity
abbrev pub Held : (f : Field) → CodeOf f → Type 0
Held field.latitude c = c.1 < 8388608
Held field.longitude c = mag c.0 < 8388608
Held field.uncertainty c = c.0 < 128
Held field.altitude_uncertainty c = c.0 < 128
Held field.altitude c = c.1 < 32768
Held field.inner_radius c = c.0 < 65536
Held field.offset c = c.0 < angle_codes
Held field.included c = c.0 < angle_codes
Held field.orientation c = c.0 < angle_codes
Held field.bearing c = c.0 < bearing_codes
Held field.horizontal_speed c = c.0 < 65536
Held field.vertical_speed c = c.1 < 256
Held field.uncertainty_speed c = c.0 < 256
Held field.confidence c = c.0 < confidence_codes
