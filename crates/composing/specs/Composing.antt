-- The octets that the parts of the writer store.
use Rattle.std.specs.Prelude.{List, [], ◌∷◌, ◌++◌, ℕ, zero, suc, ◌≤◌, ◌<◌, get_or, drop, Result}
use Rattle.ground.specs.declared.code.LatitudeCode.{LatitudeCode}
use Rattle.ground.specs.declared.code.LongitudeCode.{LongitudeCode}
use Rattle.ground.specs.declared.refusals.Refusal.{Refusal}
use Rattle.octets.specs.Bits.{octets}
use Rattle.octets.specs.Codes.{position, level}
use Rattle.layout.specs.declared.shape.Kind.{Kind}
use Rattle.layout.specs.declared.shape.Kind.TheVariants.{Nothing, Point, Circle, Ellipse, Polygon, AltitudePoint, AltitudeEllipsoid, Arc}
use Rattle.layout.specs.declared.shape.Shape.{Shape}
use Rattle.layout.specs.Layout.{shape_rows}
use Rattle.layout.specs.Rows.{length_of, message}
use Rattle.layout.specs.Demands.{TypeKnown, CountSound, InFields, Writes}
use Rattle.layout.specs.Shapes.{rows_of, value_of, zero_latitude, zero_longitude}
use Rattle.code_arrays.specs.Shapes.{array_rows, value_in}

-- the record that elements say is written
abbrev pub WritesElements : List ℕ → List ℕ → List ℕ → Result ℕ Refusal → Type 0
WritesElements elements = Writes (array_rows elements) (value_in elements)

-- the octets of the first n of these points
abbrev pub positions : List LatitudeCode → List LongitudeCode → ℕ → List ℕ
positions latitudes longitudes zero = []
positions latitudes longitudes (suc n) =
    positions latitudes longitudes n ++ position (get_or latitudes n zero_latitude) (get_or longitudes n zero_longitude)

-- the octets after the position
abbrev pub rest : Kind → Shape → List ℕ
rest Nothing x = []
rest Point x = []
rest Circle x = x.uncertainty.0 ∷ []
rest Ellipse x = x.semi_major.0 ∷ x.semi_minor.0 ∷ x.orientation.0 ∷ x.confidence.0 ∷ []
rest Polygon x = []
rest AltitudePoint x = level x.altitude
rest AltitudeEllipsoid x =
    level x.altitude ++ (x.semi_major.0 ∷ x.semi_minor.0 ∷ x.orientation.0 ∷ x.altitude_uncertainty.0 ∷ x.confidence.0 ∷ [])
rest Arc x = octets 2 x.inner_radius.0 ++ (x.uncertainty.0 ∷ x.offset.0 ∷ x.included.0 ∷ x.confidence.0 ∷ [])

abbrev pub rest_of : Shape → List ℕ
rest_of x = rest x.kind x

-- they have room, and an altitude is within its field
pub record RestFits (x : Shape) (room : ℕ) : Type 0 where
  pub fits : length_of (shape_rows x.kind 0) ≤ room
  pub level : x.altitude.1 < 32768

-- a record whose message can be stored in so much room
pub record ShapeStorable (x : Shape) (room : ℕ) : Type 0 where
  pub listed : TypeKnown (rows_of x)
  pub counted : CountSound (rows_of x) (value_of x)
  pub fields : InFields (rows_of x) (value_of x)
  pub fits : length_of (rows_of x) ≤ room

-- the message in the first octets, the others as they were
abbrev pub stored : Shape → List ℕ → List ℕ
stored x before = message (rows_of x) (value_of x) ++ drop (length_of (rows_of x)) before
