-- The codes of a polygon's points that their fields hold.
use Rattle.std.specs.Prelude.{List, ℕ, ◌<◌, get_or}
use Rattle.ground.specs.declared.code.LatitudeCode.{LatitudeCode}
use Rattle.ground.specs.declared.code.LongitudeCode.{LongitudeCode}
use Rattle.fields.specs.Fields as field
use Rattle.fields.specs.Quantities.{Held}
use Rattle.layout.specs.Shapes.{zero_latitude, zero_longitude}

abbrev pub LatitudesHeld : List LatitudeCode → ℕ → Type 0
LatitudesHeld codes n = (i : ℕ) → i < n → Held field.latitude (get_or codes i zero_latitude)

abbrev pub LongitudesHeld : List LongitudeCode → ℕ → Type 0
LongitudesHeld codes n = (i : ℕ) → i < n → Held field.longitude (get_or codes i zero_longitude)
