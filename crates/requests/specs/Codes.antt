-- A request as codes, the kinds that can hold it, and the record of each: what the choice is made from. That these say what
-- holding and better say is a law (proofs/).
use Rattle.std.specs.Prelude.{◌≡◌, Bool, true, false, cond, List, ℕ, zero, suc, ◌≤◌, ltb, eqb, Option, Some, None, is_some, unwrap_or}
use Rattle.ground.specs.Answers.{done}
use Rattle.ground.specs.declared.quantity.Millimetres.{Millimetres}
use Rattle.ground.specs.declared.quantity.SignedMillimetres.{SignedMillimetres}
use Rattle.ground.specs.declared.code.AltitudeCode.{AltitudeCode}
use Rattle.ground.specs.declared.code.AltitudeUncertaintyCode.{AltitudeUncertaintyCode}
use Rattle.ground.specs.declared.code.ConfidenceCode.{ConfidenceCode}
use Rattle.ground.specs.declared.code.OrientationCode.{OrientationCode}
use Rattle.fields.specs.Fields.{Coding}
use Rattle.fields.specs.Fields as field
use Rattle.fields.specs.Quantities.{Held}
use Rattle.octets.specs.Codes.{bit_of, complement}
use Rattle.layout.specs.declared.shape.Kind.{Kind}
use Rattle.layout.specs.declared.shape.Shape.{Shape}
use Rattle.layout.specs.Layout.{MessageField, shape_rows, type_of}
use Rattle.layout.specs.Layout as layout
use Rattle.layout.specs.Rows.{width_of, length_of, message}
use Rattle.layout.specs.Shapes.{shape_of, rows_of, value_of}
use Rattle.requests.specs.declared.Request.{Request}
use Rattle.requests.specs.declared.Horizontal.{Horizontal}
use Rattle.requests.specs.declared.Horizontal.TheVariants as horizontal
use Rattle.requests.specs.declared.codes.AreaWanted.{AreaWanted}
use Rattle.requests.specs.declared.codes.Wanted.{Wanted}
use Rattle.requests.specs.Holding.{Area, circle, ellipse, no_area, altitude_had, area_had, altitude_uncertainty_had, confidence_had}
use Rattle.requests.specs.Choice.{TakesPart, Before, rank}

-- ---- w has the codes of a request: of each quantity its field's code, and none of what is not asked

abbrev pub AltitudeCodes : Option SignedMillimetres → Option AltitudeCode → Type 0
AltitudeCodes (Some a) (Some c) = Coding field.altitude a (done c)
AltitudeCodes (Some a) None = ⊥
AltitudeCodes None (Some c) = ⊥
AltitudeCodes None None = Unit {0}

pub record AxesCodes (R S : Millimetres) (turned : OrientationCode → Type 0) (w : AreaWanted) : Type 0 where
  pub major : Coding field.uncertainty R (done w.semi_major)
  pub minor : Coding field.uncertainty S (done w.semi_minor)
  pub turn : turned w.orientation

abbrev pub AreaCodes : Horizontal → Option AreaWanted → Type 0
AreaCodes (horizontal.Circle R) (Some w) = AxesCodes R R (λ N. N.0 ≡ 0) w
AreaCodes (horizontal.Circle R) None = ⊥
AreaCodes (horizontal.Ellipse R S a) (Some w) = AxesCodes R S (λ N. Coding field.orientation a (done N)) w
AreaCodes (horizontal.Ellipse R S a) None = ⊥
AreaCodes horizontal.NotAsked (Some w) = ⊥
AreaCodes horizontal.NotAsked None = Unit {0}

abbrev pub AltitudeUncertaintyCodes : Option Millimetres → Option AltitudeUncertaintyCode → Type 0
AltitudeUncertaintyCodes (Some R) (Some K) = Coding field.altitude_uncertainty R (done K)
AltitudeUncertaintyCodes (Some R) None = ⊥
AltitudeUncertaintyCodes None (Some K) = ⊥
AltitudeUncertaintyCodes None None = Unit {0}

pub record CodesOf (q : Request) (w : Wanted) : Type 0 where
  pub latitudes : Coding field.latitude q.latitude (done w.latitude)
  pub longitudes : Coding field.longitude q.longitude (done w.longitude)
  pub altitudes : AltitudeCodes q.altitude w.altitude
  pub areas : AreaCodes q.horizontal w.area
  pub heights : AltitudeUncertaintyCodes q.altitude_uncertainty w.altitude_uncertainty
  pub confidences : Coding field.confidence q.confidence (done w.confidence)

-- the code that is wanted, zero where none is asked

abbrev pub altitude_or_0 : Option AltitudeCode → AltitudeCode
altitude_or_0 w = unwrap_or w (record { 0 = false; 1 = 0 })

abbrev pub area_or_0 : Option AreaWanted → AreaWanted
area_or_0 w = unwrap_or w (record { semi_major = record { 0 = 0 }; semi_minor = record { 0 = 0 }; orientation = record { 0 = 0 } })

abbrev pub height_or_0 : Option AltitudeUncertaintyCode → AltitudeUncertaintyCode
height_or_0 w = unwrap_or w (record { 0 = 0 })

-- ---- holding, as codes: no smaller than what is wanted, or the same

abbrev pub FitsAltitude : Option AltitudeCode → Option AltitudeCode → Type 0
FitsAltitude (Some a) (Some c) = c ≡ a
FitsAltitude (Some a) None = ⊥
FitsAltitude None (Some c) = ⊥
FitsAltitude None None = Unit {0}

abbrev pub FitsArea : Option AreaWanted → Area → Type 0
FitsArea (Some w) (circle K) = w.semi_major.0 ≤ K.0
FitsArea (Some w) (ellipse K J N) = (w.semi_major.0 ≤ K.0) × (w.semi_minor.0 ≤ J.0) × (N ≡ w.orientation)
FitsArea (Some w) no_area = ⊥
FitsArea None (circle K) = ⊥
FitsArea None (ellipse K J N) = ⊥
FitsArea None no_area = Unit {0}

abbrev pub FitsAltitudeUncertainty : Option AltitudeUncertaintyCode → Option AltitudeUncertaintyCode → Type 0
FitsAltitudeUncertainty (Some L) (Some K) = L.0 ≤ K.0
FitsAltitudeUncertainty (Some L) None = ⊥
FitsAltitudeUncertainty None (Some K) = ⊥
FitsAltitudeUncertainty None None = Unit {0}

abbrev pub FitsConfidence : ConfidenceCode → Option ConfidenceCode → Type 0
FitsConfidence c (Some d) = d ≡ c
FitsConfidence c None = c.0 ≡ 0

pub record Fits (w : Wanted) (x : Shape) : Type 0 where
  pub latitudes : x.latitude ≡ w.latitude
  pub longitudes : x.longitude ≡ w.longitude
  pub altitudes : FitsAltitude w.altitude (altitude_had (rows_of x) x)
  pub areas : FitsArea w.area (area_had (rows_of x) x)
  pub heights : FitsAltitudeUncertainty w.altitude_uncertainty (altitude_uncertainty_had (rows_of x) x)
  pub confidences : FitsConfidence w.confidence (confidence_had (rows_of x) x)

-- codes of a request: each is one that its field holds
pub record Tame (w : Wanted) : Type 0 where
  pub latitudes : Held field.latitude w.latitude
  pub longitudes : Held field.longitude w.longitude
  pub altitudes : Held field.altitude (altitude_or_0 w.altitude)
  pub majors : Held field.uncertainty (area_or_0 w.area).semi_major
  pub minors : Held field.uncertainty (area_or_0 w.area).semi_minor
  pub orientations : Held field.orientation (area_or_0 w.area).orientation
  pub heights : Held field.altitude_uncertainty (height_or_0 w.altitude_uncertainty)
  pub confidences : Held field.confidence w.confidence

-- ---- which kinds can hold it

-- the kind's layout has a row for the field
abbrev pub has_row : Kind → MessageField → Bool
has_row k f = ltb 0 (width_of (shape_rows k 0) f)

abbrev pub has_area : Kind → Bool
has_area k = cond (has_row k layout.semi_major) true (has_row k layout.uncertainty)

-- it has what is asked, and nothing else; with no confidence field, none is asked
pub record Able (w : Wanted) (k : Kind) : Type 0 where
  pub part : TakesPart k
  pub altitudes : has_row k layout.altitude ≡ is_some w.altitude
  pub areas : has_area k ≡ is_some w.area
  pub heights : has_row k layout.altitude_uncertainty ≡ is_some w.altitude_uncertainty
  pub confidences : has_row k layout.confidence ≡ false → w.confidence.0 ≡ 0

-- ---- the best message of one kind: the codes that are wanted, in the rows that the kind has

abbrev pub wanted_number : Kind → Wanted → MessageField → ℕ
wanted_number k w layout.type_number = type_of k
wanted_number k w (layout.south zero) = bit_of w.latitude.0
wanted_number k w (layout.south (suc i)) = 0
wanted_number k w (layout.latitude zero) = w.latitude.1
wanted_number k w (layout.latitude (suc i)) = 0
wanted_number k w (layout.longitude zero) = complement w.longitude.0
wanted_number k w (layout.longitude (suc i)) = 0
wanted_number k w layout.depth = bit_of (altitude_or_0 w.altitude).0
wanted_number k w layout.altitude = (altitude_or_0 w.altitude).1
wanted_number k w layout.uncertainty = (area_or_0 w.area).semi_major.0
wanted_number k w layout.semi_major = (area_or_0 w.area).semi_major.0
wanted_number k w layout.semi_minor = (area_or_0 w.area).semi_minor.0
wanted_number k w layout.orientation = (area_or_0 w.area).orientation.0
wanted_number k w layout.altitude_uncertainty = (height_or_0 w.altitude_uncertainty).0
wanted_number k w layout.confidence = w.confidence.0
wanted_number k w layout.count = 0
wanted_number k w layout.inner_radius = 0
wanted_number k w layout.offset = 0
wanted_number k w layout.included = 0
wanted_number k w layout.bearing = 0
wanted_number k w layout.horizontal_speed = 0
wanted_number k w layout.down = 0
wanted_number k w layout.vertical_speed = 0
wanted_number k w layout.speed_uncertainty = 0
wanted_number k w layout.vertical_uncertainty = 0

-- what the kind has no row for is zero
abbrev pub row_number : Kind → Wanted → MessageField → ℕ
row_number k w f = cond (eqb (width_of (shape_rows k 0) f) 0) 0 (wanted_number k w f)

abbrev pub wanted_record : Kind → Wanted → Shape
wanted_record k w = shape_of k (row_number k w)

abbrev pub message_of : Kind → Wanted → List ℕ
message_of k w = message (rows_of (wanted_record k w)) (value_of (wanted_record k w))

-- ---- which kind is best

abbrev pub rank_of : Kind → Wanted → List ℕ
rank_of k w = rank (wanted_record k w) (length_of (shape_rows k 0))

-- a kind that is taken and can hold it, and none of those whose message is better
pub record BestKind (w : Wanted) (taken : Kind → Type 0) (k : Kind) : Type 0 where
  pub able : Able w k
  pub listed : taken k
  pub none_before : (j : Kind) → Able w j → taken j → Before (rank_of j w) (rank_of k w) → ⊥
