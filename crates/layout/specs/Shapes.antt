-- A shape's record against the layout table.
use Rattle.std.specs.Prelude.{◌≡◌, false, List, [], ◌∷◌, ◌++◌, ℕ, zero, suc, pos, length, get_or, Result, IfOk}
use Rattle.ground.specs.Answers.{outcome_number}
use Rattle.ground.specs.declared.code.LatitudeCode.{LatitudeCode}
use Rattle.ground.specs.declared.code.LongitudeCode.{LongitudeCode}
use Rattle.ground.specs.declared.refusals.Refusal.{Refusal}
use Rattle.octets.specs.Bits.{bits}
use Rattle.octets.specs.Codes.{bit_of, sign_of, complement, from_complement}
use Rattle.layout.specs.declared.shape.Kind.{Kind}
use Rattle.layout.specs.declared.shape.Kind.TheVariants.{Nothing, Point, Circle, Ellipse, Polygon, AltitudePoint, AltitudeEllipsoid, Arc}
use Rattle.layout.specs.declared.shape.Shape.{Shape}
use Rattle.layout.specs.Layout.{MessageField, Row, shape_rows, type_of}
use Rattle.layout.specs.Layout as layout
use Rattle.layout.specs.Rows.{read}
use Rattle.layout.specs.Demands.{ReadAnswer, Writes}

-- the kind of a type number; none: nothing
abbrev pub kind_of : ℕ → Kind
kind_of n = get_or (Point ∷ Circle ∷ Nothing ∷ Ellipse ∷ Nothing ∷ Polygon ∷ Nothing ∷ Nothing ∷ AltitudePoint ∷ AltitudeEllipsoid ∷ Arc ∷ []) n Nothing

-- f 0, f 1, .. to f (n - 1)
abbrev pub upto : {A : Type 0} → ℕ → (ℕ → A) → List A
upto zero f = []
upto (suc n) f = upto n f ++ (f n ∷ [])

-- ---- a record from the numbers of its fields

abbrev pub latitude_of : (MessageField → ℕ) → ℕ → LatitudeCode
latitude_of value i = record { 0 = sign_of (value (layout.south i)); 1 = value (layout.latitude i) }

abbrev pub longitude_of : (MessageField → ℕ) → ℕ → LongitudeCode
longitude_of value i = record { 0 = from_complement (value (layout.longitude i)) }

-- with these points, and so many of them
abbrev pub shape_with : Kind → (MessageField → ℕ) → ℕ → List LatitudeCode → List LongitudeCode → Shape
shape_with k value n latitudes longitudes = record {
  kind = k;
  latitude = latitude_of value 0;
  longitude = longitude_of value 0;
  altitude = record { 0 = sign_of (value layout.depth); 1 = value layout.altitude };
  uncertainty = record { 0 = value layout.uncertainty };
  semi_major = record { 0 = value layout.semi_major };
  semi_minor = record { 0 = value layout.semi_minor };
  orientation = record { 0 = value layout.orientation };
  altitude_uncertainty = record { 0 = value layout.altitude_uncertainty };
  confidence = record { 0 = value layout.confidence };
  inner_radius = record { 0 = value layout.inner_radius };
  offset = record { 0 = value layout.offset };
  included = record { 0 = value layout.included };
  count = n;
  latitudes = latitudes;
  longitudes = longitudes;
}

abbrev pub shape_of : Kind → (MessageField → ℕ) → Shape
shape_of k value = shape_with k value (value layout.count) (upto 15 (λ i. latitude_of value (suc i))) (upto 15 (λ i. longitude_of value (suc i)))

-- the record in which every code is zero
abbrev pub blank_shape : Kind → Shape
blank_shape k = shape_of k (λ f. 0)

-- a record whose arrays have all their elements, as those of every record of the code have
pub record Fifteen (x : Shape) : Type 0 where
  pub all_latitudes : length x.latitudes ≡ 15
  pub all_longitudes : length x.longitudes ≡ 15

-- ---- the numbers of a record's fields

abbrev pub zero_latitude : LatitudeCode
zero_latitude = record { 0 = false; 1 = 0 }

abbrev pub zero_longitude : LongitudeCode
zero_longitude = record { 0 = pos 0 }

abbrev pub value_of : Shape → MessageField → ℕ
value_of x layout.type_number = type_of x.kind
value_of x layout.count = x.count
value_of x (layout.south zero) = bit_of x.latitude.0
value_of x (layout.south (suc i)) = bit_of (get_or x.latitudes i zero_latitude).0
value_of x (layout.latitude zero) = x.latitude.1
value_of x (layout.latitude (suc i)) = (get_or x.latitudes i zero_latitude).1
value_of x (layout.longitude zero) = complement x.longitude.0
value_of x (layout.longitude (suc i)) = complement (get_or x.longitudes i zero_longitude).0
value_of x layout.depth = bit_of x.altitude.0
value_of x layout.altitude = x.altitude.1
value_of x layout.uncertainty = x.uncertainty.0
value_of x layout.semi_major = x.semi_major.0
value_of x layout.semi_minor = x.semi_minor.0
value_of x layout.orientation = x.orientation.0
value_of x layout.altitude_uncertainty = x.altitude_uncertainty.0
value_of x layout.confidence = x.confidence.0
value_of x layout.inner_radius = x.inner_radius.0
value_of x layout.offset = x.offset.0
value_of x layout.included = x.included.0
value_of x layout.bearing = 0
value_of x layout.horizontal_speed = 0
value_of x layout.down = 0
value_of x layout.vertical_speed = 0
value_of x layout.speed_uncertainty = 0
value_of x layout.vertical_uncertainty = 0

-- ---- the promises

-- the kind and the rows of octets: the type in bits 8 to 5 of octet 1, a polygon's count in bits 4 to 1
abbrev pub kind_in : List ℕ → Kind
kind_in s = kind_of (bits s 0 4)

abbrev pub rows_in : List ℕ → List Row
rows_in s = shape_rows (kind_in s) (bits s 4 4)

-- the record that stands in octets
abbrev pub shape_in : List ℕ → Shape
shape_in s = shape_of (kind_in s) (read s (rows_in s))

pub record ReadsShape (s : List ℕ) (r : Result Shape Refusal) : Type 0 where
  pub answer : ReadAnswer (rows_in s) s (outcome_number r)
  pub shape : IfOk r (λ x. x ≡ shape_in s)

-- the rows of a record
abbrev pub rows_of : Shape → List Row
rows_of x = shape_rows x.kind x.count

abbrev pub WritesShape : Shape → List ℕ → List ℕ → Result ℕ Refusal → Type 0
WritesShape x = Writes (rows_of x) (value_of x)
