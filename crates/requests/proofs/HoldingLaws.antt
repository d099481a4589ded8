-- Where w has the codes of q, a record holds q exactly when it fits w.
use Rattle.std.specs.Prelude.{Option, Some, None}
use Prim.Native.Nat.{ℕ, ◌≤◌, ◌<◌}
use mathlib.Core.Path.{◌≡◌, sym, ap, ◌∙◌, subst}
use mathlib.Core.Bool.{true, false}
use native.Mathlib.Omega.{arith}
use lib.Dec.{T}
use Rattle.ground.specs.Answers.{done}
use Rattle.ground.specs.Sets.{LeastCode}
use Rattle.ground.proofs.AnswerLaws.{said-one}
use Rattle.ground.specs.declared.code.AltitudeCode.{AltitudeCode}
use Rattle.ground.specs.declared.code.AltitudeUncertaintyCode.{AltitudeUncertaintyCode}
use Rattle.ground.specs.declared.code.ConfidenceCode.{ConfidenceCode}
use Rattle.ground.specs.declared.code.OrientationCode.{OrientationCode}
use Rattle.ground.specs.declared.quantity.Millimetres.{Millimetres}
use Rattle.ground.specs.declared.quantity.PerCent.{PerCent}
use Rattle.ground.specs.declared.quantity.SignedMillimetres.{SignedMillimetres}
use Rattle.radii.specs.Covering.{Covers}
use Rattle.radii.proofs.CoverLaws.{covers_up}
use Rattle.fields.specs.Fields.{Field, CodeOf, QuantityOf, Coding}
use Rattle.fields.specs.Fields as field
use Rattle.fields.proofs.OneAnswer.{coding-one}
use Rattle.layout.specs.declared.shape.Shape.{Shape}
use Rattle.layout.specs.Shapes.{rows_of}
use Rattle.requests.specs.declared.Request.{Request}
use Rattle.requests.specs.declared.Horizontal.{Horizontal}
use Rattle.requests.specs.declared.Horizontal.TheVariants as horizontal
use Rattle.requests.specs.declared.codes.AreaWanted.{AreaWanted}
use Rattle.requests.specs.declared.codes.Wanted.{Wanted}
use Rattle.requests.specs.Holding.{Area, circle, ellipse, no_area, altitude_had, area_had, altitude_uncertainty_had, confidence_had, HoldsAltitude, HoldsArea, HoldsAltitudeUncertainty, HoldsConfidence, Holds}
use Rattle.requests.specs.Codes.{AltitudeCodes, AreaCodes, AltitudeUncertaintyCodes, CodesOf, FitsAltitude, FitsArea, FitsAltitudeUncertainty, FitsConfidence, Fits}

pub differ : true ≡ false → ⊥
differ e = subst T e tt

-- ---- one code

pub code_one : (f : Field) (x : QuantityOf f) (c d : CodeOf f) → Coding f x (done c) → Coding f x (done d) → c ≡ d
code_one f x c d p q = said-one (coding-one f x (done c) (done d) p q)

-- a code that covers is not below the least that does, and one that is not below it covers
module _ {scale num den : ℕ} {R K : ℕ} (p : LeastCode (Covers scale num den) 127 R K) where
  above : (J : ℕ) → Covers scale num den J R → K ≤ J
  above J c = let n : J < K → ⊥ = λ l. p.least J l c in omega arith

  covering : den ≤ num → (J : ℕ) → K ≤ J → Covers scale num den J R
  covering g J l = covers_up g J l p.covered

-- ---- each thing that may be asked

altitude-fits : (a : Option SignedMillimetres) (w v : Option AltitudeCode) → AltitudeCodes a w → HoldsAltitude a v → FitsAltitude w v
altitude-fits (Some a) (Some b) (Some c) p h = code_one field.altitude a c b h p
altitude-fits (Some a) (Some b) None p h = absurd h
altitude-fits (Some a) None v p h = absurd p
altitude-fits None (Some b) v p h = absurd p
altitude-fits None None (Some c) p h = absurd h
altitude-fits None None None p h = tt

fits-altitude : (a : Option SignedMillimetres) (w v : Option AltitudeCode) → AltitudeCodes a w → FitsAltitude w v → HoldsAltitude a v
fits-altitude (Some a) (Some b) (Some c) p f = subst (λ (d : AltitudeCode). Coding field.altitude a (done d)) (sym f) p
fits-altitude (Some a) (Some b) None p f = absurd f
fits-altitude (Some a) None v p f = absurd p
fits-altitude None (Some b) v p f = absurd p
fits-altitude None None (Some c) p f = absurd f
fits-altitude None None None p f = tt

pub same_turn : (N M : OrientationCode) → N.0 ≡ 0 → M.0 ≡ 0 → N ≡ M
same_turn N M e d = ap (λ (n : ℕ). record { 0 = n }) (e ∙ sym d)

area-fits : (h : Horizontal) (w : Option AreaWanted) (v : Area) → AreaCodes h w → HoldsArea h v → FitsArea w v
area-fits (horizontal.Circle R) (Some w) (circle K) p h = above p.major K.0 h
area-fits (horizontal.Circle R) (Some w) (ellipse K J N) p h = (above p.major K.0 h.0, above p.minor J.0 h.1, same_turn N w.orientation h.2 p.turn)
area-fits (horizontal.Circle R) (Some w) no_area p h = absurd h
area-fits (horizontal.Circle R) None v p h = absurd p
area-fits (horizontal.Ellipse R S a) (Some w) (circle K) p h = above p.major K.0 h
area-fits (horizontal.Ellipse R S a) (Some w) (ellipse K J N) p h = (above p.major K.0 h.0, above p.minor J.0 h.1, code_one field.orientation a N w.orientation h.2 p.turn)
area-fits (horizontal.Ellipse R S a) (Some w) no_area p h = absurd h
area-fits (horizontal.Ellipse R S a) None v p h = absurd p
area-fits horizontal.NotAsked (Some w) v p h = absurd p
area-fits horizontal.NotAsked None (circle K) p h = absurd h
area-fits horizontal.NotAsked None (ellipse K J N) p h = absurd h
area-fits horizontal.NotAsked None no_area p h = tt

fits-area : (h : Horizontal) (w : Option AreaWanted) (v : Area) → AreaCodes h w → FitsArea w v → HoldsArea h v
fits-area (horizontal.Circle R) (Some w) (circle K) p f = covering p.major (omega arith) K.0 f
fits-area (horizontal.Circle R) (Some w) (ellipse K J N) p f =
    (covering p.major (omega arith) K.0 f.0, covering p.minor (omega arith) J.0 f.1, ap (λ (n : OrientationCode). n.0) f.2 ∙ p.turn)
fits-area (horizontal.Circle R) (Some w) no_area p f = absurd f
fits-area (horizontal.Circle R) None v p f = absurd p
fits-area (horizontal.Ellipse R S a) (Some w) (circle K) p f = covering p.major (omega arith) K.0 f
fits-area (horizontal.Ellipse R S a) (Some w) (ellipse K J N) p f =
    (covering p.major (omega arith) K.0 f.0, covering p.minor (omega arith) J.0 f.1, subst (λ (n : OrientationCode). Coding field.orientation a (done n)) (sym f.2) p.turn)
fits-area (horizontal.Ellipse R S a) (Some w) no_area p f = absurd f
fits-area (horizontal.Ellipse R S a) None v p f = absurd p
fits-area horizontal.NotAsked (Some w) v p f = absurd p
fits-area horizontal.NotAsked None (circle K) p f = absurd f
fits-area horizontal.NotAsked None (ellipse K J N) p f = absurd f
fits-area horizontal.NotAsked None no_area p f = tt

height-fits : (u : Option Millimetres) (w v : Option AltitudeUncertaintyCode) → AltitudeUncertaintyCodes u w → HoldsAltitudeUncertainty u v → FitsAltitudeUncertainty w v
height-fits (Some R) (Some L) (Some K) p h = above p K.0 h
height-fits (Some R) (Some L) None p h = absurd h
height-fits (Some R) None v p h = absurd p
height-fits None (Some L) v p h = absurd p
height-fits None None (Some K) p h = absurd h
height-fits None None None p h = tt

fits-height : (u : Option Millimetres) (w v : Option AltitudeUncertaintyCode) → AltitudeUncertaintyCodes u w → FitsAltitudeUncertainty w v → HoldsAltitudeUncertainty u v
fits-height (Some R) (Some L) (Some K) p f = covering p (omega arith) K.0 f
fits-height (Some R) (Some L) None p f = absurd f
fits-height (Some R) None v p f = absurd p
fits-height None (Some L) v p f = absurd p
fits-height None None (Some K) p f = absurd f
fits-height None None None p f = tt

confidence-fits : (a : Option PerCent) (c : ConfidenceCode) (v : Option ConfidenceCode) → Coding field.confidence a (done c) → HoldsConfidence a v → FitsConfidence c v
confidence-fits (Some n) c (Some d) p h = code_one field.confidence (Some n) d c h p
confidence-fits (Some n) c None p h = absurd h
confidence-fits None c (Some d) p h = code_one field.confidence None d c h p
confidence-fits None c None p h = p

fits-confidence : (a : Option PerCent) (c : ConfidenceCode) (v : Option ConfidenceCode) → Coding field.confidence a (done c) → FitsConfidence c v → HoldsConfidence a v
fits-confidence (Some n) c (Some d) p f = subst (λ (e : ConfidenceCode). Coding field.confidence (Some n) (done e)) (sym f) p
fits-confidence (Some n) c None p f = omega (arith, p.itself, p.least)
fits-confidence None c (Some d) p f = subst (λ (e : ConfidenceCode). Coding field.confidence None (done e)) (sym f) p
fits-confidence None c None p f = tt

-- ---- the record

module _ (q : Request) (w : Wanted) (p : CodesOf q w) (x : Shape) where
  pub fitted : Holds q x → Fits w x
  fitted h = record {
    latitudes = code_one field.latitude q.latitude x.latitude w.latitude h.latitudes p.latitudes;
    longitudes = code_one field.longitude q.longitude x.longitude w.longitude h.longitudes p.longitudes;
    altitudes = altitude-fits q.altitude w.altitude (altitude_had (rows_of x) x) p.altitudes h.altitudes;
    areas = area-fits q.horizontal w.area (area_had (rows_of x) x) p.areas h.areas;
    heights = height-fits q.altitude_uncertainty w.altitude_uncertainty (altitude_uncertainty_had (rows_of x) x) p.heights h.heights;
    confidences = confidence-fits q.confidence w.confidence (confidence_had (rows_of x) x) p.confidences h.confidences;
  }

  pub holding : Fits w x → Holds q x
  holding f = record {
    latitudes = rw f.latitudes p.latitudes;
    longitudes = rw f.longitudes p.longitudes;
    altitudes = fits-altitude q.altitude w.altitude (altitude_had (rows_of x) x) p.altitudes f.altitudes;
    areas = fits-area q.horizontal w.area (area_had (rows_of x) x) p.areas f.areas;
    heights = fits-height q.altitude_uncertainty w.altitude_uncertainty (altitude_uncertainty_had (rows_of x) x) p.heights f.heights;
    confidences = fits-confidence q.confidence w.confidence (confidence_had (rows_of x) x) p.confidences f.confidences;
  }
