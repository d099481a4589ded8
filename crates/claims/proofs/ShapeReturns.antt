-- ONE ANSWER of reporting and coding a shape, and THE TRIP: a record that can be reported and whose semi-minor code is not above
-- its semi-major, reported and coded by its own type, is that record, however often; so, written, its own octets.
use Rattle.std.specs.Prelude.{Result, Ok, Err}
use Prim.Native.Nat.{ℕ, suc, ◌≤◌, ◌<◌}
use mathlib.Core.Path.{◌≡◌, refl, sym, ap, subst, ◌∙◌}
use mathlib.Core.List.{List, ◌++◌}
use native.Mathlib.Omega.{arith}
use lib.ListN.{length, drop}
use lib.Seq.{ext_get_or}
use Rattle.ground.specs.Answers.{number_of, outcome_number}
use Rattle.ground.proofs.AnswerLaws.{not-0, value-told}
use Rattle.ground.specs.declared.refusals.Refusal.{Refusal}
use Rattle.layout.specs.declared.shape.Kind.{Kind}
use Rattle.layout.specs.declared.shape.Kind.TheVariants as shape
use Rattle.layout.specs.declared.shape.Shape.{Shape}
use Rattle.layout.specs.Layout.{Row, shape_rows}
use Rattle.layout.specs.Layout as layout
use Rattle.layout.specs.Rows.{length_of, spare_zero}
use Rattle.layout.specs.Demands.{Used, CountSound, Sound, WriteAnswer}
use Rattle.layout.specs.Shapes.{rows_in, rows_of, value_of, zero_latitude, zero_longitude, ReadsShape, WritesShape, Fifteen}
use Rattle.layout.proofs.KindLaws.{fixed-width}
use Rattle.layout.proofs.DemandLaws.{sound}
use Rattle.layout.proofs.OneMessage.{write-answer-one}
use Rattle.layout.proofs.ShapeTrips.{shape-taken, shape-accepted, shape-whole, shape-again}
use Rattle.quantities.specs.declared.shape.ShapeQuantities.{ShapeQuantities}
use Rattle.quantities.specs.Places.{Place}
use Rattle.quantities.specs.Places as place
use Rattle.quantities.specs.Promises.{EachCoded, CodeAnswer}
use Rattle.quantities.specs.Shapes.{code_at, quantity_at, zero_degrees, QuantitiesOf, ReportsShape, quantity_rows, RecordOf, CodesShape, TakesShape}
use Rattle.quantities.proofs.UnusedLaws.{no_number, unused-code}
use Rattle.claims.specs.Travels.{Then, ShapeTravels, stays, goes, AxesInOrder}
use Rattle.claims.proofs.PlaceLaws.{reported-same, coded-same, code-answer-one, coded-back, answer_back, answer-exchanged}

-- ---- a record is told by its codes, and quantities by theirs

same_shape : (x y : Shape) → x.kind ≡ y.kind → x.count ≡ y.count → Fifteen x → Fifteen y → ((p : Place) → code_at x p ≡ code_at y p) → x ≡ y
same_shape x y k n a b same = λ j. record {
  kind = k j;
  latitude = same (place.latitude 0) j;
  longitude = same (place.longitude 0) j;
  altitude = same place.altitude j;
  uncertainty = same place.uncertainty j;
  semi_major = same place.semi_major j;
  semi_minor = same place.semi_minor j;
  orientation = same place.orientation j;
  altitude_uncertainty = same place.altitude_uncertainty j;
  confidence = same place.confidence j;
  inner_radius = same place.inner_radius j;
  offset = same place.offset j;
  included = same place.included j;
  count = n j;
  latitudes = ext_get_or zero_latitude x.latitudes y.latitudes (a.all_latitudes ∙ sym b.all_latitudes) (λ i h. same (place.latitude (suc i))) j;
  longitudes = ext_get_or zero_longitude x.longitudes y.longitudes (a.all_longitudes ∙ sym b.all_longitudes) (λ i h. same (place.longitude (suc i))) j;
}

pub reported-one : (x : Shape) (q r : ShapeQuantities) → QuantitiesOf x q → QuantitiesOf x r → q ≡ r
reported-one x q r a b =
    let same = reported-same (rows_of x) (code_at x) (quantity_at q) (quantity_at r) a.each b.each in
    λ j. record {
      kind = (a.kinds ∙ sym b.kinds) j;
      latitude = same (place.latitude 0) j;
      longitude = same (place.longitude 0) j;
      altitude = same place.altitude j;
      uncertainty = same place.uncertainty j;
      semi_major = same place.semi_major j;
      semi_minor = same place.semi_minor j;
      orientation = same place.orientation j;
      altitude_uncertainty = same place.altitude_uncertainty j;
      confidence = same place.confidence j;
      inner_radius = same place.inner_radius j;
      offset = same place.offset j;
      included = same place.included j;
      count = (a.counts ∙ sym b.counts) j;
      latitudes = ext_get_or zero_degrees q.latitudes r.latitudes (a.all_latitudes ∙ sym b.all_latitudes) (λ i h. same (place.latitude (suc i))) j;
      longitudes = ext_get_or zero_degrees q.longitudes r.longitudes (a.all_longitudes ∙ sym b.all_longitudes) (λ i h. same (place.longitude (suc i))) j;
    }

whole : (q : ShapeQuantities) (x : Shape) → RecordOf q x → Fifteen x
whole q x a = record { all_latitudes = a.all_latitudes; all_longitudes = a.all_longitudes }

pub coded-one : (q : ShapeQuantities) (x y : Shape) → RecordOf q x → RecordOf q y → x ≡ y
coded-one q x y a b =
    same_shape x y (a.kinds ∙ sym b.kinds) (a.counts ∙ sym b.counts) (whole q x a) (whole q y b) (coded-same (quantity_rows q) (quantity_at q) (code_at x) (code_at y) a.each b.each)

-- ---- one answer

pub reports-shape-one : (x : Shape) (a b : Result ShapeQuantities Refusal) → ReportsShape x a → ReportsShape x b → a ≡ b
reports-shape-one x a b p q =
    value-told (WriteAnswer (rows_of x) (value_of x) (length_of (rows_of x))) (write-answer-one (rows_of x) (value_of x) (length_of (rows_of x))) (QuantitiesOf x) (reported-one x) a b p.answer q.answer p.quantities q.quantities

pub codes-shape-one : (q : ShapeQuantities) (a b : Result Shape Refusal) → CodesShape q a → CodesShape q b → a ≡ b
codes-shape-one q a b r s =
    value-told (CodeAnswer (quantity_rows q) q.count (quantity_at q)) (code-answer-one (quantity_rows q) q.count (quantity_at q)) (RecordOf q) (coded-one q) a b r.answer s.answer r.shape s.shape

-- ---- the trip

-- a type with a semi-minor has a semi-major
together : (k : Kind) (n : ℕ) → Used (shape_rows k n) layout.semi_minor → Used (shape_rows k n) layout.semi_major
together shape.Nothing n u = u
together shape.Point n u = u
together shape.Circle n u = u
together shape.Ellipse n u = omega arith
together shape.Polygon n u = let w = fixed-width shape.Polygon n layout.semi_minor (omega arith) (omega arith) in absurd (omega arith)
together shape.AltitudePoint n u = u
together shape.AltitudeEllipsoid n u = omega arith
together shape.Arc n u = u

module _ (x : Shape) (can : TakesShape x) where
  can-sound : Sound (rows_of x) (value_of x)
  can-sound = (sound (rows_of x) (value_of x) (length_of (rows_of x)) can).0

  -- it is reported
  not-refused : (why : Refusal) → ReportsShape x (Err why) → ⊥
  not-refused why p = not-0 why (write-answer-one (rows_of x) (value_of x) (length_of (rows_of x)) (number_of why) 0 p.answer can)

  -- the answer to its quantities, from the answer by its own rows
  own-answer : (q : ShapeQuantities) → QuantitiesOf x q → (m : ℕ) → CodeAnswer (rows_of x) x.count (quantity_at q) m → CodeAnswer (quantity_rows q) q.count (quantity_at q) m
  own-answer q reported m h =
      subst (λ (k : Kind). CodeAnswer (shape_rows k q.count) q.count (quantity_at q) m) (sym reported.kinds)
      (subst (λ (n : ℕ). CodeAnswer (shape_rows x.kind n) n (quantity_at q) m) (sym reported.counts) h)

  counted : CountSound (rows_of x) (λ f. x.count)
  counted = record { least = can-sound.counted.least; most = can-sound.counted.most }

  -- OTHERWISE: where the semi-minor code is above the semi-major, its quantities are refused with 7
  pub axes-exchanged : x.semi_major.0 < x.semi_minor.0 → (r : Result ShapeQuantities Refusal) (c : Result Shape Refusal) → ReportsShape x r → Then CodesShape r c → outcome_number c ≡ 7
  axes-exchanged exchanged (Ok q) c p s =
      code-answer-one (quantity_rows q) q.count (quantity_at q) _ 7 s.answer
      (own-answer q p.quantities 7
      (answer-exchanged (rows_of x) (code_at x) (quantity_at q) p.quantities.each (unused-code x can-sound.fields) (together x.kind x.count) exchanged x.count can-sound.listed counted))
  axes-exchanged exchanged (Err why) c p s = absurd (not-refused why p)

module _ (x : Shape) (can : TakesShape x) (order : AxesInOrder x) (fifteen : Fifteen x) where
  module _ (q : ShapeQuantities) (reported : QuantitiesOf x q) where
    answer : CodeAnswer (quantity_rows q) q.count (quantity_at q) 0
    answer =
        own-answer x can q reported 0
        (answer_back (rows_of x) (code_at x) (quantity_at q) reported.each (unused-code x (can-sound x can).fields) (together x.kind x.count) order x.count
        (can-sound x can).listed (counted x can) (no_number (rows_of x) (value_of x) (can-sound x can).fields layout.count))

    rows_same : quantity_rows q ≡ rows_of x
    rows_same = λ j. shape_rows (reported.kinds j) (reported.counts j)

    record-back : (y : Shape) → RecordOf q y → y ≡ x
    record-back y a =
        same_shape y x (a.kinds ∙ reported.kinds) (a.counts ∙ reported.counts) (whole q y a) fifteen
        (coded-back (rows_of x) (code_at x) (quantity_at q) reported.each (unused-code x (can-sound x can).fields) (code_at y)
        (subst (λ (rows : List Row). EachCoded rows (quantity_at q) (code_at y)) rows_same a.each))

    -- coded, they are that record
    record-coded : (c : Result Shape Refusal) → CodesShape q c → c ≡ Ok x
    record-coded (Ok y) s = ap Ok (record-back y s.shape)
    record-coded (Err why) s = absurd (not-0 why (code-answer-one (quantity_rows q) q.count (quantity_at q) (number_of why) 0 s.answer answer))

  -- reported and coded, it is that record
  pub shape_returns : (r : Result ShapeQuantities Refusal) (c : Result Shape Refusal) → ReportsShape x r → Then CodesShape r c → c ≡ Ok x
  shape_returns (Ok q) c p s = record-coded q p.quantities c s
  shape_returns (Err why) c p s = absurd (not-refused x can why p)

  -- however often
  pub shape-however-often : {n : ℕ} {c : Result Shape Refusal} → ShapeTravels x n c → c ≡ Ok x
  shape-however-often (stays e) = e
  shape-however-often (goes {c = c} {d = d} t r p s) = shape_returns r d (subst (λ (y : Result Shape Refusal). Then ReportsShape y r) (shape-however-often t) p) s

-- A message that is read, its semi-minor code not above its semi-major: after any number of trips its record, written, gives its
-- own octets with the spare bits zero.
module _ (s : List ℕ) (x : Shape) (reads : ReadsShape s (Ok x)) (order : AxesInOrder x) where
  pub shape-own-octets : {n : ℕ} {c : Result Shape Refusal} → ShapeTravels x n c → (before after : List ℕ) (w : Result ℕ Refusal) → Then (λ (y : Shape). WritesShape y before after) c w → length s ≤ length before
      → (w ≡ Ok (length s)) × (after ≡ spare_zero (rows_in s) s ++ drop (length s) before)
  shape-own-octets {n} {c} t before after w writes room =
      let e = shape-however-often x (shape-accepted s (Ok x) reads x refl) order (shape-whole s (Ok x) reads x refl) t in
      let own = subst (λ (y : Result Shape Refusal). Then (λ (z : Shape). WritesShape z before after) y w) e writes in
      (shape-taken s (Ok x) reads x refl before after w own room, shape-again s (Ok x) reads x refl before after w own room)
