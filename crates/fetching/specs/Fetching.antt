-- The record of a kind in octets, in the words of the layout table.
use Rattle.std.specs.Prelude.{◌≡◌, List, ◌++◌, ℕ, ◌+◌, ◌-◌, ◌*◌, length, replicate}
use Rattle.ground.specs.declared.code.LatitudeCode.{LatitudeCode}
use Rattle.ground.specs.declared.code.LongitudeCode.{LongitudeCode}
use Rattle.octets.specs.Bits.{bits}
use Rattle.octets.specs.Codes.{latitude_in, longitude_in}
use Rattle.layout.specs.declared.shape.Kind.{Kind}
use Rattle.layout.specs.declared.shape.Kind.TheVariants.{Polygon}
use Rattle.layout.specs.declared.shape.Shape.{Shape}
use Rattle.layout.specs.Layout.{Row, shape_rows, start, altitude_rows}
use Rattle.layout.specs.Rows.{read, length_of}
use Rattle.layout.specs.Shapes.{shape_of, blank_shape, upto, zero_latitude, zero_longitude}

-- the rows of a kind, where the octets give a polygon's count
abbrev pub rows_for : Kind → List ℕ → List Row
rows_for k s = shape_rows k (bits s 4 4)

-- octets as many as its messages have
abbrev pub ShapeOfLength : Kind → List ℕ → Type 0
ShapeOfLength k s = length s ≡ length_of (rows_for k s)

-- the record of a kind in octets; of the start alone; with the altitude
abbrev pub shape_of_kind : Kind → List ℕ → Shape
shape_of_kind k s = shape_of k (read s (rows_for k s))

abbrev pub start_of : Kind → List ℕ → Shape
start_of k s = shape_of k (read s start)

abbrev pub level_of : Kind → List ℕ → Shape
level_of k s = shape_of k (read s (start ++ altitude_rows))

-- a polygon's record: n points of six octets after the first octet, and zeros
abbrev pub latitudes_of : ℕ → List ℕ → List LatitudeCode
latitudes_of n s = upto n (λ i. latitude_in s (8 * (1 + 6 * i))) ++ replicate (15 - n) zero_latitude

abbrev pub longitudes_of : ℕ → List ℕ → List LongitudeCode
longitudes_of n s = upto n (λ i. longitude_in s (8 * (4 + 6 * i))) ++ replicate (15 - n) zero_longitude

abbrev pub pointed : Shape → ℕ → List LatitudeCode → List LongitudeCode → Shape
pointed x n lats lons = record {
  kind = x.kind;
  latitude = x.latitude;
  longitude = x.longitude;
  altitude = x.altitude;
  uncertainty = x.uncertainty;
  semi_major = x.semi_major;
  semi_minor = x.semi_minor;
  orientation = x.orientation;
  altitude_uncertainty = x.altitude_uncertainty;
  confidence = x.confidence;
  inner_radius = x.inner_radius;
  offset = x.offset;
  included = x.included;
  count = n;
  latitudes = lats;
  longitudes = lons;
}

abbrev pub polygon_of : ℕ → List ℕ → Shape
polygon_of n s = pointed (blank_shape Polygon) n (latitudes_of n s) (longitudes_of n s)
