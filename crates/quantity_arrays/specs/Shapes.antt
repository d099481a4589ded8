-- A SHAPE'S QUANTITIES IN 44 ELEMENTS.
use Rattle.std.specs.Prelude.{List, [], ◌∷◌, ◌++◌, ℕ, zero, suc, ◌+◌, ◌*◌, ◌≤◌, ◌<◌, ℤ, pos, get_or, replicate}
use Rattle.ground.specs.declared.quantity.Nanodegrees.{Nanodegrees}
use Rattle.layout.specs.Layout.{type_of}
use Rattle.layout.specs.Shapes.{kind_of, upto}
use Rattle.quantities.specs.declared.shape.ShapeQuantities.{ShapeQuantities}
use Rattle.quantities.specs.Shapes.{zero_degrees}
use Rattle.code_arrays.specs.QuantityNumbers.{quantity_in, Natural32, Signed32, natural_of, signed_of}
use Rattle.quantity_arrays.specs.Numbers.{octet_of, Optional, confidence_of, confidence_element}

-- ---- THE LAYOUT

-- the quantities that are no polygon point's
abbrev pub single_quantity_elements : ShapeQuantities → List ℤ
single_quantity_elements q =
    pos (type_of q.kind) ∷ pos q.count ∷ q.latitude.0 ∷ q.longitude.0 ∷ q.altitude.0 ∷ pos q.uncertainty.0 ∷ pos q.semi_major.0 ∷ pos q.semi_minor.0 ∷ pos q.orientation.0 ∷ pos q.altitude_uncertainty.0 ∷ pos q.inner_radius.0 ∷ pos q.offset.0 ∷ pos q.included.0 ∷ confidence_element q.confidence ∷ []

-- latitude and longitude of the first n of these points
abbrev pub point_quantity_elements : List Nanodegrees → List Nanodegrees → ℕ → List ℤ
point_quantity_elements latitudes longitudes zero = []
point_quantity_elements latitudes longitudes (suc n) =
    point_quantity_elements latitudes longitudes n ++ ((get_or latitudes n zero_degrees).0 ∷ (get_or longitudes n zero_degrees).0 ∷ [])

-- quantities in their elements
abbrev pub quantity_elements : ShapeQuantities → List ℤ
quantity_elements q = single_quantity_elements q ++ point_quantity_elements q.latitudes q.longitudes 15

-- ---- the quantities that elements say

abbrev pub coordinate_in : List ℤ → ℕ → ℕ → Nanodegrees
coordinate_in elements first i = record { 0 = quantity_in elements (first + 2 * i) }

-- with these points
abbrev pub quantities_with : List ℤ → List Nanodegrees → List Nanodegrees → ShapeQuantities
quantities_with elements latitudes longitudes = record {
  kind = kind_of (octet_of (quantity_in elements 0));
  latitude = record { 0 = quantity_in elements 2 };
  longitude = record { 0 = quantity_in elements 3 };
  altitude = record { 0 = signed_of (quantity_in elements 4) };
  uncertainty = record { 0 = natural_of (quantity_in elements 5) };
  semi_major = record { 0 = natural_of (quantity_in elements 6) };
  semi_minor = record { 0 = natural_of (quantity_in elements 7) };
  orientation = record { 0 = natural_of (quantity_in elements 8) };
  altitude_uncertainty = record { 0 = natural_of (quantity_in elements 9) };
  inner_radius = record { 0 = natural_of (quantity_in elements 10) };
  offset = record { 0 = natural_of (quantity_in elements 11) };
  included = record { 0 = natural_of (quantity_in elements 12) };
  confidence = confidence_of (quantity_in elements 13);
  count = octet_of (quantity_in elements 1);
  latitudes = latitudes;
  longitudes = longitudes;
}

abbrev pub quantities_in : List ℤ → ShapeQuantities
quantities_in elements = quantities_with elements (upto 15 (coordinate_in elements 14)) (upto 15 (coordinate_in elements 15))

-- their outline: the quantities but for the points
abbrev pub quantity_outline_in : List ℤ → ShapeQuantities
quantity_outline_in elements = quantities_with elements (replicate 15 zero_degrees) (replicate 15 zero_degrees)

-- ---- Quantities arrive signed in 64 bits for coordinates, signed in 32 for the altitude, unsigned in 32 otherwise.

abbrev pub NaturalsArrive : List ℤ → Type 0
NaturalsArrive elements = (i : ℕ) → 5 ≤ i → i < 13 → Natural32 (quantity_in elements i)

pub record ShapeArrives (elements : List ℤ) : Type 0 where
  pub level : Signed32 (quantity_in elements 4)
  pub sureness : Optional (quantity_in elements 13)
  pub naturals : NaturalsArrive elements
