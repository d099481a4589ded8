-- A SHAPE'S CODES IN 61 ELEMENTS.
use Rattle.std.specs.Prelude.{◌≡◌, List, [], ◌∷◌, ◌++◌, ℕ, zero, suc, ◌+◌, ◌*◌, ◌≤◌, get_or, take, replicate}
use Rattle.ground.specs.declared.code.LatitudeCode.{LatitudeCode}
use Rattle.ground.specs.declared.code.LongitudeCode.{LongitudeCode}
use Rattle.octets.specs.Codes.{bit_of, complement}
use Rattle.layout.specs.declared.shape.Kind.{Kind}
use Rattle.layout.specs.declared.shape.Shape.{Shape}
use Rattle.layout.specs.Layout.{MessageField, Row, shape_rows, type_of}
use Rattle.layout.specs.Layout as layout
use Rattle.layout.specs.Shapes.{kind_of, shape_with, shape_of, zero_latitude, zero_longitude}
use Rattle.code_arrays.specs.CodeNumbers.{element_at, from_bits, bits_of}

-- ---- THE LAYOUT

-- the numbers that are no polygon point's
abbrev pub single_elements : Shape → List ℕ
single_elements x =
    type_of x.kind ∷ x.count ∷ bit_of x.latitude.0 ∷ x.latitude.1 ∷ bits_of x.longitude.0 ∷ bit_of x.altitude.0 ∷ x.altitude.1 ∷ x.uncertainty.0 ∷ x.semi_major.0 ∷ x.semi_minor.0 ∷ x.orientation.0 ∷ x.altitude_uncertainty.0 ∷ x.inner_radius.0 ∷ x.offset.0 ∷ x.included.0 ∷ x.confidence.0 ∷ []

-- S, latitude and longitude of a point, and of the first n of these points
abbrev pub point_element : LatitudeCode → LongitudeCode → List ℕ
point_element north east = bit_of north.0 ∷ north.1 ∷ bits_of east.0 ∷ []

abbrev pub point_elements : List LatitudeCode → List LongitudeCode → ℕ → List ℕ
point_elements latitudes longitudes zero = []
point_elements latitudes longitudes (suc n) = point_elements latitudes longitudes n ++ point_element (get_or latitudes n zero_latitude) (get_or longitudes n zero_longitude)

-- a record in its elements
abbrev pub shape_elements : Shape → List ℕ
shape_elements x = single_elements x ++ point_elements x.latitudes x.longitudes 15

-- of these points there are n, at most fifteen, and what comes after the last is zero
pub record Ended (latitudes : List LatitudeCode) (longitudes : List LongitudeCode) (n : ℕ) : Type 0 where
  pub most : n ≤ 15
  pub no_latitude : (i : ℕ) → n ≤ i → get_or latitudes i zero_latitude ≡ zero_latitude
  pub no_longitude : (i : ℕ) → n ≤ i → get_or longitudes i zero_longitude ≡ zero_longitude

-- ---- the record that elements say

-- the element of a field, a polygon's points being numbered from 1
abbrev pub element_of : MessageField → ℕ
element_of layout.type_number = 0
element_of layout.count = 1
element_of (layout.south zero) = 2
element_of (layout.latitude zero) = 3
element_of (layout.longitude zero) = 4
element_of layout.depth = 5
element_of layout.altitude = 6
element_of layout.uncertainty = 7
element_of layout.semi_major = 8
element_of layout.semi_minor = 9
element_of layout.orientation = 10
element_of layout.altitude_uncertainty = 11
element_of layout.inner_radius = 12
element_of layout.offset = 13
element_of layout.included = 14
element_of layout.confidence = 15
element_of (layout.south (suc i)) = 16 + 3 * i
element_of (layout.latitude (suc i)) = 17 + 3 * i
element_of (layout.longitude (suc i)) = 18 + 3 * i
-- no element: a velocity's
element_of layout.bearing = 61
element_of layout.horizontal_speed = 61
element_of layout.down = 61
element_of layout.vertical_speed = 61
element_of layout.speed_uncertainty = 61
element_of layout.vertical_uncertainty = 61

-- the number of every field, by the first 61 elements; a longitude's is the one of 24 bits
abbrev pub value_in : List ℕ → MessageField → ℕ
value_in elements (layout.longitude i) = complement (from_bits (element_at (take 61 elements) (element_of (layout.longitude i))))
value_in elements layout.type_number = element_at (take 61 elements) (element_of layout.type_number)
value_in elements layout.count = element_at (take 61 elements) (element_of layout.count)
value_in elements (layout.south i) = element_at (take 61 elements) (element_of (layout.south i))
value_in elements (layout.latitude i) = element_at (take 61 elements) (element_of (layout.latitude i))
value_in elements layout.depth = element_at (take 61 elements) (element_of layout.depth)
value_in elements layout.altitude = element_at (take 61 elements) (element_of layout.altitude)
value_in elements layout.uncertainty = element_at (take 61 elements) (element_of layout.uncertainty)
value_in elements layout.semi_major = element_at (take 61 elements) (element_of layout.semi_major)
value_in elements layout.semi_minor = element_at (take 61 elements) (element_of layout.semi_minor)
value_in elements layout.orientation = element_at (take 61 elements) (element_of layout.orientation)
value_in elements layout.altitude_uncertainty = element_at (take 61 elements) (element_of layout.altitude_uncertainty)
value_in elements layout.confidence = element_at (take 61 elements) (element_of layout.confidence)
value_in elements layout.inner_radius = element_at (take 61 elements) (element_of layout.inner_radius)
value_in elements layout.offset = element_at (take 61 elements) (element_of layout.offset)
value_in elements layout.included = element_at (take 61 elements) (element_of layout.included)
value_in elements layout.bearing = 0
value_in elements layout.horizontal_speed = 0
value_in elements layout.down = 0
value_in elements layout.vertical_speed = 0
value_in elements layout.speed_uncertainty = 0
value_in elements layout.vertical_uncertainty = 0

abbrev pub array_kind : List ℕ → Kind
array_kind elements = kind_of (value_in elements layout.type_number)

abbrev pub array_rows : List ℕ → List Row
array_rows elements = shape_rows (array_kind elements) (value_in elements layout.count)

-- the record, where each number is within its field
abbrev pub record_in : List ℕ → Shape
record_in elements = shape_of (array_kind elements) (value_in elements)

-- its outline: the record but for its points
abbrev pub outline_in : List ℕ → Shape
outline_in elements = shape_with (array_kind elements) (value_in elements) 0 (replicate 15 zero_latitude) (replicate 15 zero_longitude)
