-- A NUMBER AFTER A SPACE, A QUANTITY, AND THE ROWS OF A RECORD IN THEIR ORDER, as text: document 01, "The lister" (polygon: count, then
-- pairs; velocity: bearing first; missing_text: `-`).
use Rattle.std.specs.Prelude.{List, [], ◌∷◌, ◌++◌, ℕ, ℤ, pos, Some, None}
use Rattle.text.specs.Text.{decimal, signed_decimal}
use Rattle.fields.specs.Fields.{CodeOf, QuantityOf}
use Rattle.fields.specs.Fields as field
use Rattle.fields.specs.Quantities.{quantity_of}
use Rattle.layout.specs.Layout.{Row}
use Rattle.layout.specs.Layout as layout
use Rattle.quantities.specs.Places.{Place, field_of, PlaceCodes}
use Rattle.quantities.specs.Places as place

-- a number after a space, and the mark of a missing_text one
unfoldable pub number_text : ℤ → List ℕ
number_text x = 32 ∷ signed_decimal x

abbrev pub missing_text : List ℕ
missing_text = 32 ∷ 45 ∷ []

-- a quantity
abbrev pub quantity_text : (f : field.Field) → QuantityOf f → List ℕ
quantity_text field.latitude x = number_text x.0
quantity_text field.longitude x = number_text x.0
quantity_text field.uncertainty x = number_text (pos x.0)
quantity_text field.altitude_uncertainty x = number_text (pos x.0)
quantity_text field.altitude x = number_text x.0
quantity_text field.inner_radius x = number_text (pos x.0)
quantity_text field.offset x = number_text (pos x.0)
quantity_text field.included x = number_text (pos x.0)
quantity_text field.orientation x = number_text (pos x.0)
quantity_text field.bearing x = number_text (pos x.0)
quantity_text field.horizontal_speed x = number_text (pos x.0)
quantity_text field.vertical_speed x = number_text x.0
quantity_text field.uncertainty_speed (Some s) = number_text (pos s.0)
quantity_text field.uncertainty_speed None = missing_text
quantity_text field.confidence (Some p) = number_text (pos p.0)
quantity_text field.confidence None = missing_text

-- the quantity that is reported at a place
abbrev pub place_text : PlaceCodes → Place → List ℕ
place_text code p = quantity_text (field_of p) (quantity_of (field_of p) (code p))

-- A ROW'S TEXT. The type stands before all rows, and a sign is its number's.
abbrev pub row_text : PlaceCodes → ℕ → layout.MessageField → List ℕ
row_text code n layout.type_number = []
row_text code n layout.count = number_text (pos n)
row_text code n (layout.south i) = []
row_text code n (layout.latitude i) = place_text code (place.latitude i)
row_text code n (layout.longitude i) = place_text code (place.longitude i)
row_text code n layout.depth = []
row_text code n layout.altitude = place_text code place.altitude
row_text code n layout.uncertainty = place_text code place.uncertainty
row_text code n layout.semi_major = place_text code place.semi_major
row_text code n layout.semi_minor = place_text code place.semi_minor
row_text code n layout.orientation = place_text code place.orientation
row_text code n layout.altitude_uncertainty = place_text code place.altitude_uncertainty
row_text code n layout.confidence = place_text code place.confidence
row_text code n layout.inner_radius = place_text code place.inner_radius
row_text code n layout.offset = place_text code place.offset
row_text code n layout.included = place_text code place.included
row_text code n layout.bearing = place_text code place.bearing
row_text code n layout.horizontal_speed = place_text code place.horizontal_speed
row_text code n layout.down = []
row_text code n layout.vertical_speed = place_text code place.vertical_speed
row_text code n layout.speed_uncertainty = place_text code place.speed_uncertainty
row_text code n layout.vertical_uncertainty = place_text code place.vertical_uncertainty

-- the rows' in their order
abbrev pub rows_text : PlaceCodes → ℕ → List Row → List ℕ
rows_text code n [] = []
rows_text code n (r ∷ rs) = row_text code n r.field ++ rows_text code n rs

-- "0 " and the type
unfoldable pub head_text : ℕ → List ℕ
head_text type = 48 ∷ 32 ∷ decimal type

-- what is reported of a code
unfoldable pub code_text : (f : field.Field) → CodeOf f → List ℕ
code_text f c = quantity_text f (quantity_of f c)
