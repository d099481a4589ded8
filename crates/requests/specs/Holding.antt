-- HOLDING: document 01, "When a message holds a request".
use Rattle.std.specs.Prelude.{◌≡◌, cond, ltb, List, Option, Some, None}
use Rattle.ground.specs.declared.code.AltitudeCode.{AltitudeCode}
use Rattle.ground.specs.declared.code.AltitudeUncertaintyCode.{AltitudeUncertaintyCode}
use Rattle.ground.specs.declared.code.ConfidenceCode.{ConfidenceCode}
use Rattle.ground.specs.declared.code.OrientationCode.{OrientationCode}
use Rattle.ground.specs.declared.code.UncertaintyCode.{UncertaintyCode}
use Rattle.ground.specs.declared.quantity.Millimetres.{Millimetres}
use Rattle.ground.specs.declared.quantity.PerCent.{PerCent}
use Rattle.ground.specs.declared.quantity.SignedMillimetres.{SignedMillimetres}
use Rattle.coordinates.specs.Latitude.{LatitudeSet}
use Rattle.coordinates.specs.Longitude.{LongitudeSet}
use Rattle.lengths.specs.Lengths.{AltitudeSet}
use Rattle.angles.specs.Angles.{OrientationSet}
use Rattle.radii.specs.Radii.{RadiusCovers, HeightCovers}
use Rattle.confidences.specs.Confidences.{ConfidenceSet}
use Rattle.layout.specs.declared.shape.Shape.{Shape}
use Rattle.layout.specs.Layout.{MessageField, Row, altitude, uncertainty, semi_major, altitude_uncertainty, confidence}
use Rattle.layout.specs.Rows.{width_of}
use Rattle.layout.specs.Shapes.{rows_of}
use Rattle.requests.specs.declared.Request.{Request}
use Rattle.requests.specs.declared.Horizontal.{Horizontal}
use Rattle.requests.specs.declared.Horizontal.TheVariants as horizontal

-- ---- what a message has: what its type's layout has a row for

abbrev pub had : {A : Type 0} → List Row → MessageField → A → Option A
had rows f a = cond (ltb 0 (width_of rows f)) (Some a) None

-- a horizontal uncertainty: a circle's one code, or the codes of two axes and an orientation
pub data Area : Type 0 where
  circle : UncertaintyCode → Area
  ellipse : (semi-major semi-minor : UncertaintyCode) → OrientationCode → Area
  no_area : Area

abbrev pub altitude_had : List Row → Shape → Option AltitudeCode
altitude_had rows x = had rows altitude x.altitude

abbrev pub area_had : List Row → Shape → Area
area_had rows x =
    cond (ltb 0 (width_of rows semi_major)) (ellipse x.semi_major x.semi_minor x.orientation)
    (cond (ltb 0 (width_of rows uncertainty)) (circle x.uncertainty) no_area)

abbrev pub altitude_uncertainty_had : List Row → Shape → Option AltitudeUncertaintyCode
altitude_uncertainty_had rows x = had rows altitude_uncertainty x.altitude_uncertainty

abbrev pub confidence_had : List Row → Shape → Option ConfidenceCode
confidence_had rows x = had rows confidence x.confidence

-- ---- what holds what: it is there exactly when it is asked

abbrev pub HoldsAltitude : Option SignedMillimetres → Option AltitudeCode → Type 0
HoldsAltitude (Some a) (Some c) = AltitudeSet c a.0
HoldsAltitude (Some a) None = ⊥
HoldsAltitude None (Some c) = ⊥
HoldsAltitude None None = Unit {0}

-- A circle holds an ellipse if it covers the semi-major. An ellipse has the asked orientation's code, or 0 for a circle, where
-- both axes must cover the radius.
abbrev pub HoldsArea : Horizontal → Area → Type 0
HoldsArea (horizontal.Circle R) (circle K) = RadiusCovers K.0 R.0
HoldsArea (horizontal.Circle R) (ellipse K J N) = RadiusCovers K.0 R.0 × RadiusCovers J.0 R.0 × (N.0 ≡ 0)
HoldsArea (horizontal.Circle R) no_area = ⊥
HoldsArea (horizontal.Ellipse R S a) (circle K) = RadiusCovers K.0 R.0
HoldsArea (horizontal.Ellipse R S a) (ellipse K J N) = RadiusCovers K.0 R.0 × RadiusCovers J.0 S.0 × OrientationSet N a.0
HoldsArea (horizontal.Ellipse R S a) no_area = ⊥
HoldsArea horizontal.NotAsked (circle K) = ⊥
HoldsArea horizontal.NotAsked (ellipse K J N) = ⊥
HoldsArea horizontal.NotAsked no_area = Unit {0}

abbrev pub HoldsAltitudeUncertainty : Option Millimetres → Option AltitudeUncertaintyCode → Type 0
HoldsAltitudeUncertainty (Some R) (Some K) = HeightCovers K.0 R.0
HoldsAltitudeUncertainty (Some R) None = ⊥
HoldsAltitudeUncertainty None (Some K) = ⊥
HoldsAltitudeUncertainty None None = Unit {0}

-- the asked one, none when none is asked; a message with no confidence field holds no request with one
abbrev pub HoldsConfidence : Option PerCent → Option ConfidenceCode → Type 0
HoldsConfidence p (Some c) = ConfidenceSet c p
HoldsConfidence (Some n) None = ⊥
HoldsConfidence None None = Unit {0}

-- THE DEFINITION: a message's record holds a request
pub record Holds (q : Request) (x : Shape) : Type 0 where
  pub latitudes : LatitudeSet x.latitude q.latitude.0
  pub longitudes : LongitudeSet x.longitude.0 q.longitude.0
  pub altitudes : HoldsAltitude q.altitude (altitude_had (rows_of x) x)
  pub areas : HoldsArea q.horizontal (area_had (rows_of x) x)
  pub heights : HoldsAltitudeUncertainty q.altitude_uncertainty (altitude_uncertainty_had (rows_of x) x)
  pub confidences : HoldsConfidence q.confidence (confidence_had (rows_of x) x)
