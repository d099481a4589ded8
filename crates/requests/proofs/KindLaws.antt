-- WHICH KINDS can hold a request, and that the record of a kind is the best of that kind, over codes.
use Rattle.std.specs.Prelude.{Option, Some, None, is_some}
use Prim.Native.Nat.{ℕ, ◌≤◌}
use mathlib.Core.Path.{◌≡◌, refl, subst}
use mathlib.Core.Bool.{Bool, true, false, cond}
use mathlib.Core.List.{List, [], ◌∷◌}
use native.Mathlib.Omega.{arith}
use Rattle.ground.specs.declared.code.AltitudeCode.{AltitudeCode}
use Rattle.ground.specs.declared.code.AltitudeUncertaintyCode.{AltitudeUncertaintyCode}
use Rattle.ground.specs.declared.code.ConfidenceCode.{ConfidenceCode}
use Rattle.ground.specs.declared.code.OrientationCode.{OrientationCode}
use Rattle.ground.specs.declared.code.UncertaintyCode.{UncertaintyCode}
use Rattle.layout.specs.declared.shape.Kind.{Kind}
use Rattle.layout.specs.declared.shape.Kind.TheVariants.{Nothing, Point, Circle, Ellipse, Polygon, AltitudePoint, AltitudeEllipsoid, Arc}
use Rattle.layout.specs.declared.shape.Shape.{Shape}
use Rattle.layout.specs.Layout.{Row, shape_rows, semi_major, uncertainty}
use Rattle.layout.specs.Rows.{length_of}
use Rattle.layout.specs.Shapes.{rows_of}
use Rattle.requests.specs.declared.codes.AreaWanted.{AreaWanted}
use Rattle.requests.specs.declared.codes.Wanted.{Wanted}
use Rattle.requests.specs.Holding.{circle, ellipse, no_area, altitude_had, area_had, altitude_uncertainty_had, confidence_had}
use Rattle.requests.specs.Choice.{TakesPart, Before, rank, major_of, minor_of, height_of}
use Rattle.requests.specs.Codes.{area_or_0, height_or_0, has_row, FitsAltitude, FitsArea, FitsAltitudeUncertainty, FitsConfidence, Fits, Able, rank_of}
use Rattle.requests.proofs.HoldingLaws.{differ}
use Rattle.requests.proofs.OrderLaws.{ended, place}

-- the five kinds
pub by_kind : (P : Kind → Type 0) → P Point → P Circle → P Ellipse → P AltitudePoint → P AltitudeEllipsoid → (k : Kind) → TakesPart k → P k
by_kind P a b c d e Nothing t = absurd t
by_kind P a b c d e Point t = a
by_kind P a b c d e Circle t = b
by_kind P a b c d e Ellipse t = c
by_kind P a b c d e Polygon t = absurd t
by_kind P a b c d e AltitudePoint t = d
by_kind P a b c d e AltitudeEllipsoid t = e
by_kind P a b c d e Arc t = absurd t

-- their rows don't depend on a count
pub part-rows : (k : Kind) → TakesPart k → (n : ℕ) → shape_rows k n ≡ shape_rows k 0
part-rows = by_kind (λ k. (n : ℕ) → shape_rows k n ≡ shape_rows k 0) (λ n. refl) (λ n. refl) (λ n. refl) (λ n. refl) (λ n. refl)

-- ---- what fits is of a kind that has what is asked

altitude-asked : (w : Option AltitudeCode) (c : AltitudeCode) (b : Bool) → FitsAltitude w (cond b (Some c) None) → b ≡ is_some w
altitude-asked (Some a) c true f = refl
altitude-asked (Some a) c false f = absurd f
altitude-asked None c true f = absurd f
altitude-asked None c false f = refl

height-asked : (w : Option AltitudeUncertaintyCode) (c : AltitudeUncertaintyCode) (b : Bool) → FitsAltitudeUncertainty w (cond b (Some c) None) → b ≡ is_some w
height-asked (Some a) c true f = refl
height-asked (Some a) c false f = absurd f
height-asked None c true f = absurd f
height-asked None c false f = refl

area-asked : (w : Option AreaWanted) (x : Shape) (a b : Bool)
    → FitsArea w (cond a (ellipse x.semi_major x.semi_minor x.orientation) (cond b (circle x.uncertainty) no_area)) → cond a true b ≡ is_some w
area-asked (Some w) x true b f = refl
area-asked (Some w) x false true f = refl
area-asked (Some w) x false false f = absurd f
area-asked None x true b f = absurd f
area-asked None x false true f = absurd f
area-asked None x false false f = refl

confidence-asked : (w c : ConfidenceCode) (b : Bool) → FitsConfidence w (cond b (Some c) None) → b ≡ false → w.0 ≡ 0
confidence-asked w c true f e = absurd (differ e)
confidence-asked w c false f e = f

module _ (w : Wanted) (x : Shape) (part : TakesPart x.kind) (f : Fits w x) where
  own-rows : rows_of x ≡ shape_rows x.kind 0
  own-rows = part-rows x.kind part x.count

  pub fits-able : Able w x.kind
  fits-able = record {
    part = part;
    altitudes = altitude-asked w.altitude x.altitude _ (subst (λ (rows : List Row). FitsAltitude w.altitude (altitude_had rows x)) own-rows f.altitudes);
    areas = area-asked w.area x (has_row x.kind semi_major) (has_row x.kind uncertainty) (subst (λ (rows : List Row). FitsArea w.area (area_had rows x)) own-rows f.areas);
    heights = height-asked w.altitude_uncertainty x.altitude_uncertainty _ (subst (λ (rows : List Row). FitsAltitudeUncertainty w.altitude_uncertainty (altitude_uncertainty_had rows x)) own-rows f.heights);
    confidences = confidence-asked w.confidence x.confidence _ (subst (λ (rows : List Row). FitsConfidence w.confidence (confidence_had rows x)) own-rows f.confidences);
  }

-- ---- what fits covers what is wanted

circle-covers : (w : Option AreaWanted) (K : UncertaintyCode) → FitsArea w (circle K) → (area_or_0 w).semi_major.0 ≤ K.0
circle-covers (Some w) K f = f
circle-covers None K f = absurd f

axes-cover : (w : Option AreaWanted) (K J : UncertaintyCode) (N : OrientationCode) → FitsArea w (ellipse K J N) → ((area_or_0 w).semi_major.0 ≤ K.0) × ((area_or_0 w).semi_minor.0 ≤ J.0)
axes-cover (Some w) K J N f = (f.0, f.1)
axes-cover None K J N f = absurd f

height-covers : (w : Option AltitudeUncertaintyCode) (K : AltitudeUncertaintyCode) → FitsAltitudeUncertainty w (Some K) → (height_or_0 w).0 ≤ K.0
height-covers (Some L) K f = f
height-covers None K f = absurd f

-- ---- THE BEST OF ONE KIND: no record of the kind that fits is before the one with the wanted codes

-- as it stands with given rows
abbrev rank_in : List Row → Shape → ℕ → List ℕ
rank_in rows x n = major_of (area_had rows x) ∷ minor_of (area_had rows x) ∷ height_of (altitude_uncertainty_had rows x) ∷ n ∷ []

pub no_lower : {a b c n a₁ b₁ c₁ : ℕ} → a₁ ≤ a → b₁ ≤ b → c₁ ≤ c → Before (a ∷ b ∷ c ∷ n ∷ []) (a₁ ∷ b₁ ∷ c₁ ∷ n ∷ []) → ⊥
no_lower h g l = place h (λ _. place g (λ _. place l (λ _. place (omega arith) (λ _. ended refl))))

module _ (w : Wanted) (x : Shape) where
  -- by the kind's rows
  abbrev NotLower : Kind → Type 0
  NotLower k = FitsArea w.area (area_had (shape_rows k 0) x) → FitsAltitudeUncertainty w.altitude_uncertainty (altitude_uncertainty_had (shape_rows k 0) x)
      → Before (rank_in (shape_rows k 0) x (length_of (shape_rows k 0))) (rank_of k w) → ⊥

  not_lower : (k : Kind) → TakesPart k → NotLower k
  not_lower = by_kind NotLower
      (λ a h. no_lower (omega arith) (omega arith) (omega arith))
      (λ a h. let e = circle-covers w.area x.uncertainty a in no_lower e e (omega arith))
      (λ a h. let e = axes-cover w.area x.semi_major x.semi_minor x.orientation a in no_lower e.0 e.1 (omega arith))
      (λ a h. no_lower (omega arith) (omega arith) (omega arith))
      (λ a h. let e = axes-cover w.area x.semi_major x.semi_minor x.orientation a in no_lower e.0 e.1 (height-covers w.altitude_uncertainty x.altitude_uncertainty h))

  pub none-lower : TakesPart x.kind → Fits w x → Before (rank x (length_of (shape_rows x.kind 0))) (rank_of x.kind w) → ⊥
  none-lower part f b =
      let e = part-rows x.kind part x.count in
      not_lower x.kind part
      (subst (λ (rows : List Row). FitsArea w.area (area_had rows x)) e f.areas)
      (subst (λ (rows : List Row). FitsAltitudeUncertainty w.altitude_uncertainty (altitude_uncertainty_had rows x)) e f.heights)
      (subst (λ (rows : List Row). Before (rank_in rows x (length_of (shape_rows x.kind 0))) (rank_of x.kind w)) e b)
