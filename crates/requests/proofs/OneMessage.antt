-- One message is best: two that hold a request, of which neither is better, are the same but for spare bits.
use Rattle.std.specs.Prelude.{Option, Some, None}
use Prim.Native.Nat.{ℕ, zero, suc, ◌≤◌}
use mathlib.Core.Path.{◌≡◌, refl, sym, ap, ◌∙◌, subst}
use mathlib.Core.Bool.{Bool, true, false, cond}
use mathlib.Core.List.{List}
use native.Mathlib.Omega.{arith}
use lib.Dec.{eqb}
use lib.ListN.{length}
use borrow.Author.Tests.{lt-ltb}
use Rattle.ground.specs.declared.code.AltitudeCode.{AltitudeCode}
use Rattle.ground.specs.declared.code.AltitudeUncertaintyCode.{AltitudeUncertaintyCode}
use Rattle.ground.specs.declared.code.ConfidenceCode.{ConfidenceCode}
use Rattle.ground.specs.declared.code.LatitudeCode.{LatitudeCode}
use Rattle.ground.specs.declared.code.LongitudeCode.{LongitudeCode}
use Rattle.ground.specs.declared.code.OrientationCode.{OrientationCode}
use Rattle.ground.specs.declared.code.UncertaintyCode.{UncertaintyCode}
use Rattle.ground.specs.declared.quantity.PerCent.{PerCent}
use Rattle.ground.specs.declared.quantity.SignedMillimetres.{SignedMillimetres}
use Rattle.octets.specs.Codes.{bit_of, complement}
use Rattle.fields.specs.Fields as field
use Rattle.layout.specs.declared.shape.Kind.{Kind}
use Rattle.layout.specs.declared.shape.Kind.TheVariants as kind
use Rattle.layout.specs.declared.shape.Shape.{Shape}
use Rattle.layout.specs.Layout.{MessageField, Row, shape_rows, type_of}
use Rattle.layout.specs.Layout as layout
use Rattle.layout.specs.Rows.{tag, width_of, length_of, message}
use Rattle.layout.specs.Demands.{Used, InFields}
use Rattle.layout.specs.Shapes.{rows_in, shape_in, rows_of, value_of}
use Rattle.layout.proofs.KindLaws.{no-point-width}
use Rattle.layout.proofs.DemandLaws.{readable}
use Rattle.layout.proofs.ShapeTrips.{sound-read}
use Rattle.layout.proofs.WidthLaws.{shape_widest, shape-width}
use Rattle.quantities.proofs.UnusedLaws.{by-use, no_number}
use Rattle.requests.specs.declared.Request.{Request}
use Rattle.requests.specs.declared.Horizontal.{Horizontal}
use Rattle.requests.specs.declared.Horizontal.TheVariants as horizontal
use Rattle.requests.specs.Holding.{Area, circle, ellipse, no_area, altitude_had, area_had, altitude_uncertainty_had, confidence_had, HoldsAltitude, HoldsArea, HoldsConfidence, Holds}
use Rattle.requests.specs.Choice.{TakesPart, major_of, minor_of, height_of, Best}
use Rattle.requests.specs.Codes.{has_row}
use Rattle.requests.proofs.HoldingLaws.{differ, code_one}
use Rattle.requests.proofs.OrderLaws.{head-same, tail-not, tail-not-back}
use Rattle.requests.proofs.KindLaws.{by_kind, part-rows}
use Rattle.requests.proofs.BestLaws.{length-of}

-- ---- a length has one kind

kind-by : ℕ → Kind
kind-by n = cond (eqb n 7) kind.Point (cond (eqb n 8) kind.Circle (cond (eqb n 11) kind.Ellipse (cond (eqb n 9) kind.AltitudePoint kind.AltitudeEllipsoid)))

kind-back : (k : Kind) → TakesPart k → kind-by (length_of (shape_rows k 0)) ≡ k
unfolding kind-by
kind-back = by_kind (λ k. kind-by (length_of (shape_rows k 0)) ≡ k) refl refl refl refl refl

kind-one : (k j : Kind) → TakesPart k → TakesPart j → length_of (shape_rows k 0) ≡ length_of (shape_rows j 0) → k ≡ j
kind-one k j a b e = sym (kind-back k a) ∙ ap kind-by e ∙ kind-back j b

-- ---- what two messages that hold the request have is the same

altitude-same : (a : Option SignedMillimetres) (b : Bool) (c d : AltitudeCode) → b ≡ true → HoldsAltitude a (cond b (Some c) None) → HoldsAltitude a (cond b (Some d) None) → c ≡ d
altitude-same (Some a) true c d e p q = code_one field.altitude a c d p q
altitude-same (Some a) false c d e p q = absurd p
altitude-same None true c d e p q = absurd p
altitude-same None false c d e p q = absurd (differ (sym e))

height-same : (b : Bool) (c d : AltitudeUncertaintyCode) → b ≡ true → height_of (cond b (Some c) None) ≡ height_of (cond b (Some d) None) → c.0 ≡ d.0
height-same true c d e h = h
height-same false c d e h = absurd (differ (sym e))

confidence-same : (a : Option PerCent) (b : Bool) (c d : ConfidenceCode) → b ≡ true → HoldsConfidence a (cond b (Some c) None) → HoldsConfidence a (cond b (Some d) None) → c ≡ d
confidence-same a true c d e p q = code_one field.confidence a c d p q
confidence-same a false c d e p q = absurd (differ (sym e))

turn-same : (h : Horizontal) (K J K₁ J₁ : UncertaintyCode) (N M : OrientationCode) → HoldsArea h (ellipse K J N) → HoldsArea h (ellipse K₁ J₁ M) → N.0 ≡ M.0
turn-same (horizontal.Circle R) K J K₁ J₁ N M p q = p.2 ∙ sym q.2
turn-same (horizontal.Ellipse R S a) K J K₁ J₁ N M p q = ap (λ (o : OrientationCode). o.0) (code_one field.orientation a N M p.2 q.2)
turn-same horizontal.NotAsked K J K₁ J₁ N M p q = absurd p

-- an area by its rows: a for the axes, b for a circle's one code
abbrev area_by : Bool → Bool → Shape → Area
area_by a b x = cond a (ellipse x.semi_major x.semi_minor x.orientation) (cond b (circle x.uncertainty) no_area)

module _ (x y : Shape) where
  axes-same : (h : Horizontal) (a b : Bool) → a ≡ true → HoldsArea h (area_by a b x) → HoldsArea h (area_by a b y)
      → major_of (area_by a b x) ≡ major_of (area_by a b y) → minor_of (area_by a b x) ≡ minor_of (area_by a b y)
      → (x.semi_major.0 ≡ y.semi_major.0) × (x.semi_minor.0 ≡ y.semi_minor.0) × (x.orientation.0 ≡ y.orientation.0)
  axes-same h true b e p q m n = (m, n, turn-same h _ _ _ _ x.orientation y.orientation p q)
  axes-same h false b e p q m n = absurd (differ (sym e))

  circle-same : (a b : Bool) → a ≡ false → b ≡ true → major_of (area_by a b x) ≡ major_of (area_by a b y) → x.uncertainty.0 ≡ y.uncertainty.0
  circle-same true b e d m = absurd (differ e)
  circle-same false true e d m = m
  circle-same false false e d m = absurd (differ (sym d))

-- ---- which rows go together

module _ (k : Kind) (part : TakesPart k) where
  has-altitude : Used (shape_rows k 0) layout.depth → has_row k layout.altitude ≡ true
  has-altitude = by_kind (λ j. Used (shape_rows j 0) layout.depth → has_row j layout.altitude ≡ true) (λ u. absurd (omega arith)) (λ u. absurd (omega arith)) (λ u. absurd (omega arith)) (λ u. refl) (λ u. refl) k part

  no-axes : Used (shape_rows k 0) layout.uncertainty → has_row k layout.semi_major ≡ false
  no-axes = by_kind (λ j. Used (shape_rows j 0) layout.uncertainty → has_row j layout.semi_major ≡ false) (λ u. refl) (λ u. refl) (λ u. absurd (omega arith)) (λ u. refl) (λ u. absurd (omega arith)) k part

  axes-minor : Used (shape_rows k 0) layout.semi_minor → has_row k layout.semi_major ≡ true
  axes-minor = by_kind (λ j. Used (shape_rows j 0) layout.semi_minor → has_row j layout.semi_major ≡ true) (λ u. absurd (omega arith)) (λ u. absurd (omega arith)) (λ u. refl) (λ u. absurd (omega arith)) (λ u. refl) k part

  axes-turned : Used (shape_rows k 0) layout.orientation → has_row k layout.semi_major ≡ true
  axes-turned = by_kind (λ j. Used (shape_rows j 0) layout.orientation → has_row j layout.semi_major ≡ true) (λ u. absurd (omega arith)) (λ u. absurd (omega arith)) (λ u. refl) (λ u. absurd (omega arith)) (λ u. refl) k part

  abbrev NoRow : MessageField → Type 0
  NoRow f = Used (shape_rows k 0) f → ⊥

  -- a polygon's point
  no-point : (f : MessageField) → 22 ≤ tag f → NoRow f
  no-point f h u = omega (arith, none)
    where
      none : width_of (shape_rows k 0) f ≡ 0
      none = by_kind (λ j. width_of (shape_rows j 0) f ≡ 0) (no-point-width kind.Point 0 f h (omega arith)) (no-point-width kind.Circle 0 f h (omega arith)) (no-point-width kind.Ellipse 0 f h (omega arith)) (no-point-width kind.AltitudePoint 0 f h (omega arith)) (no-point-width kind.AltitudeEllipsoid 0 f h (omega arith)) k part

  -- a polygon's count, an arc's fields, a velocity's
  no-count : NoRow layout.count
  no-count u = omega (arith, by_kind (λ j. width_of (shape_rows j 0) layout.count ≡ 0) refl refl refl refl refl k part)

  no-radius : NoRow layout.inner_radius
  no-radius u = omega (arith, by_kind (λ j. width_of (shape_rows j 0) layout.inner_radius ≡ 0) refl refl refl refl refl k part)

  no-offset : NoRow layout.offset
  no-offset u = omega (arith, by_kind (λ j. width_of (shape_rows j 0) layout.offset ≡ 0) refl refl refl refl refl k part)

  no-included : NoRow layout.included
  no-included u = omega (arith, by_kind (λ j. width_of (shape_rows j 0) layout.included ≡ 0) refl refl refl refl refl k part)

  no-motion : (f : MessageField) → shape_widest f ≡ 0 → NoRow f
  no-motion f e u = omega (arith, shape-width k 0 f)

-- ---- the same numbers

module _ (q : Request) (x y : Shape) (part : TakesPart x.kind) (kinds : x.kind ≡ y.kind) (p : Holds q x) (r : Holds q y)
    (majors : major_of (area_had (rows_of x) x) ≡ major_of (area_had (rows_of y) y))
    (minors : minor_of (area_had (rows_of x) x) ≡ minor_of (area_had (rows_of y) y))
    (heights : height_of (altitude_uncertainty_had (rows_of x) x) ≡ height_of (altitude_uncertainty_had (rows_of y) y)) where
  x-rows : rows_of x ≡ shape_rows x.kind 0
  x-rows = part-rows x.kind part x.count

  y-rows : rows_of y ≡ shape_rows x.kind 0
  y-rows = ap (λ (k : Kind). shape_rows k y.count) (sym kinds) ∙ part-rows x.kind part y.count

  -- both with the rows of the one kind
  moved : (P : List Row → List Row → Type 0) → P (rows_of x) (rows_of y) → P (shape_rows x.kind 0) (shape_rows x.kind 0)
  moved P h = subst (λ (l : List Row). P l (shape_rows x.kind 0)) x-rows (subst (P (rows_of x)) y-rows h)

  latitudes : x.latitude ≡ y.latitude
  latitudes = code_one field.latitude q.latitude x.latitude y.latitude p.latitudes r.latitudes

  longitudes : x.longitude ≡ y.longitude
  longitudes = code_one field.longitude q.longitude x.longitude y.longitude p.longitudes r.longitudes

  abbrev row : MessageField → Bool
  row f = has_row x.kind f

  altitudes : row layout.altitude ≡ true → x.altitude ≡ y.altitude
  altitudes e = altitude-same q.altitude (row layout.altitude) x.altitude y.altitude e
      (subst (λ (l : List Row). HoldsAltitude q.altitude (altitude_had l x)) x-rows p.altitudes)
      (subst (λ (l : List Row). HoldsAltitude q.altitude (altitude_had l y)) y-rows r.altitudes)

  axes : row layout.semi_major ≡ true → (x.semi_major.0 ≡ y.semi_major.0) × (x.semi_minor.0 ≡ y.semi_minor.0) × (x.orientation.0 ≡ y.orientation.0)
  axes e = axes-same x y q.horizontal (row layout.semi_major) (row layout.uncertainty) e
      (subst (λ (l : List Row). HoldsArea q.horizontal (area_had l x)) x-rows p.areas)
      (subst (λ (l : List Row). HoldsArea q.horizontal (area_had l y)) y-rows r.areas)
      (moved (λ l m. major_of (area_had l x) ≡ major_of (area_had m y)) majors)
      (moved (λ l m. minor_of (area_had l x) ≡ minor_of (area_had m y)) minors)

  circles : row layout.semi_major ≡ false → row layout.uncertainty ≡ true → x.uncertainty.0 ≡ y.uncertainty.0
  circles a b = circle-same x y (row layout.semi_major) (row layout.uncertainty) a b
      (moved (λ l m. major_of (area_had l x) ≡ major_of (area_had m y)) majors)

  tall : row layout.altitude_uncertainty ≡ true → x.altitude_uncertainty.0 ≡ y.altitude_uncertainty.0
  tall e = height-same (row layout.altitude_uncertainty) x.altitude_uncertainty y.altitude_uncertainty e
      (moved (λ l m. height_of (altitude_uncertainty_had l x) ≡ height_of (altitude_uncertainty_had m y)) heights)

  sure : row layout.confidence ≡ true → x.confidence ≡ y.confidence
  sure e = confidence-same q.confidence (row layout.confidence) x.confidence y.confidence e
      (subst (λ (l : List Row). HoldsConfidence q.confidence (confidence_had l x)) x-rows p.confidences)
      (subst (λ (l : List Row). HoldsConfidence q.confidence (confidence_had l y)) y-rows r.confidences)

  -- a field that the kind has a row for
  used-same : (f : MessageField) → Used (shape_rows x.kind 0) f → value_of x f ≡ value_of y f
  used-same layout.type_number u = ap type_of kinds
  used-same layout.count u = absurd (no-count x.kind part u)
  used-same (layout.south zero) u = ap (λ (c : LatitudeCode). bit_of c.0) latitudes
  used-same (layout.south (suc i)) u = absurd (no-point x.kind part (layout.south (suc i)) (omega arith) u)
  used-same (layout.latitude zero) u = ap (λ (c : LatitudeCode). c.1) latitudes
  used-same (layout.latitude (suc i)) u = absurd (no-point x.kind part (layout.latitude (suc i)) (omega arith) u)
  used-same (layout.longitude zero) u = ap (λ (c : LongitudeCode). complement c.0) longitudes
  used-same (layout.longitude (suc i)) u = absurd (no-point x.kind part (layout.longitude (suc i)) (omega arith) u)
  used-same layout.depth u = ap (λ (c : AltitudeCode). bit_of c.0) (altitudes (has-altitude x.kind part u))
  used-same layout.altitude u = ap (λ (c : AltitudeCode). c.1) (altitudes (lt-ltb _ _ u))
  used-same layout.uncertainty u = circles (no-axes x.kind part u) (lt-ltb _ _ u)
  used-same layout.semi_major u = (axes (lt-ltb _ _ u)).0
  used-same layout.semi_minor u = (axes (axes-minor x.kind part u)).1
  used-same layout.orientation u = (axes (axes-turned x.kind part u)).2
  used-same layout.altitude_uncertainty u = tall (lt-ltb _ _ u)
  used-same layout.confidence u = ap (λ (c : ConfidenceCode). c.0) (sure (lt-ltb _ _ u))
  used-same layout.inner_radius u = absurd (no-radius x.kind part u)
  used-same layout.offset u = absurd (no-offset x.kind part u)
  used-same layout.included u = absurd (no-included x.kind part u)
  used-same layout.bearing u = absurd (no-motion x.kind part layout.bearing refl u)
  used-same layout.horizontal_speed u = absurd (no-motion x.kind part layout.horizontal_speed refl u)
  used-same layout.down u = absurd (no-motion x.kind part layout.down refl u)
  used-same layout.vertical_speed u = absurd (no-motion x.kind part layout.vertical_speed refl u)
  used-same layout.speed_uncertainty u = absurd (no-motion x.kind part layout.speed_uncertainty refl u)
  used-same layout.vertical_uncertainty u = absurd (no-motion x.kind part layout.vertical_uncertainty refl u)

  -- what it has no row for is zero in both
  same-message : InFields (rows_of x) (value_of x) → InFields (rows_of y) (value_of y) → message (rows_of x) (value_of x) ≡ message (rows_of y) (value_of y)
  same-message h g =
      let xs : InFields (shape_rows x.kind 0) (value_of x) = subst (λ (l : List Row). InFields l (value_of x)) x-rows h in
      let ys : InFields (shape_rows x.kind 0) (value_of y) = subst (λ (l : List Row). InFields l (value_of y)) y-rows g in
      let same : (f : MessageField) → value_of x f ≡ value_of y f =
      λ f. by-use (shape_rows x.kind 0) f (value_of x f ≡ value_of y f) (used-same f) (λ e. no_number (shape_rows x.kind 0) (value_of x) xs f e ∙ sym (no_number (shape_rows x.kind 0) (value_of y) ys f e)) in
      ap (λ (l : List Row). message l (value_of x)) x-rows ∙ ap (λ (v : MessageField → ℕ). message (shape_rows x.kind 0) v) (λ i f. same f i) ∙ ap (λ (l : List Row). message l (value_of y)) (sym y-rows)

-- ---- ONE MESSAGE IS BEST

pub best-one : (q : Request) (taken : Kind → Type 0) (s t : List ℕ) → Best q taken s → Best q taken t → s ≡ t
best-one q taken s t a b =
    let c = a.candidate in
    let d = b.candidate in
    let u = readable (rows_in s) s c.readable in
    let v = readable (rows_in t) t d.readable in
    let f = b.none_better s c in
    let g = a.none_better t d in
    let f1 = tail-not f g in
    let g1 = tail-not-back f g in
    let f2 = tail-not f1 g1 in
    let g2 = tail-not-back f1 g1 in
    let long : length s ≡ length t = head-same (tail-not f2 g2) (tail-not-back f2 g2) in
    let kinds = kind-one (shape_in s).kind (shape_in t).kind c.part d.part (sym (length-of s u c.part) ∙ long ∙ length-of t v d.part) in
    a.own
    ∙ same-message q (shape_in s) (shape_in t) c.part kinds c.holds d.holds (head-same f g) (head-same f1 g1) (head-same f2 g2) (sound-read s u).fields (sound-read t v).fields
    ∙ sym b.own
