-- THE TEXT OF A SHAPE, document 01, "The lister": the answer 0, the type and the reported quantities in layout order; and its parts, as
-- they are put.
use Rattle.std.specs.Prelude.{List, [], ◌∷◌, ◌++◌, ℕ, zero, suc, ◌<◌, get_or}
use Rattle.std.specs.Int.Signed.{mag}
use Rattle.ground.specs.declared.code.LatitudeCode.{LatitudeCode}
use Rattle.ground.specs.declared.code.LongitudeCode.{LongitudeCode}
use Rattle.ground.specs.declared.code.UncertaintyCode.{UncertaintyCode}
use Rattle.ground.specs.declared.code.OrientationCode.{OrientationCode}
use Rattle.fields.specs.Fields as field
use Rattle.text.specs.Text.{decimal}
use Rattle.layout.specs.declared.shape.Kind.{Kind}
use Rattle.layout.specs.declared.shape.Kind.TheVariants.{Nothing, Point, Circle, Ellipse, Polygon, AltitudePoint, AltitudeEllipsoid, Arc}
use Rattle.layout.specs.declared.shape.Shape.{Shape}
use Rattle.layout.specs.Layout.{type_of}
use Rattle.layout.specs.Shapes.{rows_of, zero_latitude, zero_longitude}
use Rattle.quantities.specs.Shapes.{code_at}
use Rattle.wording.specs.Numbers.{rows_text, code_text}

-- "0 ", the type, and the quantities
unfoldable pub shape_text : Shape → List ℕ
shape_text x = 48 ∷ 32 ∷ decimal (type_of x.kind) ++ rows_text (code_at x) x.count (rows_of x)

-- ---- its parts

abbrev pub position_text : LatitudeCode → LongitudeCode → List ℕ
position_text c d = code_text field.latitude c ++ code_text field.longitude d

abbrev pub axes_text : UncertaintyCode → UncertaintyCode → OrientationCode → List ℕ
axes_text major minor angle = code_text field.uncertainty major ++ code_text field.uncertainty minor ++ code_text field.orientation angle

-- the first n points
abbrev pub points_text : List LatitudeCode → List LongitudeCode → ℕ → List ℕ
points_text cs ds zero = []
points_text cs ds (suc n) = points_text cs ds n ++ position_text (get_or cs n zero_latitude) (get_or ds n zero_longitude)

-- what a shape's kind has after the position
abbrev pub rest_text : Kind → Shape → List ℕ
rest_text Nothing x = []
rest_text Point x = []
rest_text Circle x = code_text field.uncertainty x.uncertainty
rest_text Ellipse x = axes_text x.semi_major x.semi_minor x.orientation ++ code_text field.confidence x.confidence
rest_text Polygon x = []
rest_text AltitudePoint x = code_text field.altitude x.altitude
rest_text AltitudeEllipsoid x =
    code_text field.altitude x.altitude ++ axes_text x.semi_major x.semi_minor x.orientation ++ code_text field.altitude_uncertainty x.altitude_uncertainty ++ code_text field.confidence x.confidence
rest_text Arc x =
    code_text field.inner_radius x.inner_radius ++ code_text field.uncertainty x.uncertainty ++ code_text field.offset x.offset ++ code_text field.included x.included ++ code_text field.confidence x.confidence

-- codes of points that their fields hold
abbrev pub PointsHeld : List LatitudeCode → List LongitudeCode → Type 0
PointsHeld cs ds = (i : ℕ) → ((get_or cs i zero_latitude).1 < 8388608) × (mag (get_or ds i zero_longitude).0 < 8388608)
