-- From the answers of the reader's parts to its promise.
use Rattle.std.specs.Prelude.{Ok, Err}
use Prim.Native.Nat.{ℕ, zero, suc, ◌/◌, ◌%◌, ◌<◌}
use mathlib.Core.Path.{◌≡◌, refl, ap, sym, subst, ◌∙◌}
use mathlib.Core.List.{List}
use native.Mathlib.Omega.{arith}
use lib.ListN.{length}
use Rattle.ground.specs.Answers.{number_of, Unless, Else0, met}
use Rattle.ground.specs.declared.refusals.Refusal.{Refusal}
use Rattle.ground.proofs.AnswerLaws.{not-0, when-done, unless-as}
use Rattle.octets.specs.Bits.{bits}
use Rattle.octets.proofs.BitLaws.{bits-high, bits-low}
use Rattle.layout.specs.declared.shape.Kind.{Kind}
use Rattle.layout.specs.declared.shape.Kind.TheVariants.{Nothing, Point, Circle, Ellipse, Polygon, AltitudePoint, AltitudeEllipsoid, Arc}
use Rattle.layout.specs.declared.shape.Shape.{Shape}
use Rattle.layout.specs.Layout.{MessageField, Row, shape_rows}
use Rattle.layout.specs.Layout as layout
use Rattle.layout.specs.Rows.{width_of, read}
use Rattle.layout.specs.Demands.{Used, CountSound, AnglesSound, ConfidenceSound, ReadAnswer, CodesAnswer}
use Rattle.layout.specs.Shapes.{kind_of, kind_in, rows_in, shape_in, ReadsShape}
use Rattle.layout.proofs.TidyLaws.{read-in-fields}
use Rattle.layout.proofs.PolygonLaws.{none_found}
use Rattle.fetching.specs.Fetching.{rows_for, ShapeOfLength, shape_of_kind}
use Rattle.forming.specs.Forming.{MessageFormAnswer}

-- ---- the codes: what is not used reads 0, so a demand on every code is one on those that are used

module _ (s : List ℕ) (rows : List Row) where
  below : (f : MessageField) (n w : ℕ) → 0 < n → width_of rows f ≡ w → (Used rows f → read s rows f < n) → read s rows f < n
  below f n zero h e used = omega (arith, rw e at ((read-in-fields s rows).each f))
  below f n (suc w) h e used = used (omega arith)

  abbrev Angles : Type 0
  Angles = (read s rows layout.orientation < 180) × (read s rows layout.offset < 180) × (read s rows layout.included < 180)

  from-angles : AnglesSound rows (read s rows) → Angles
  from-angles a =
      (below layout.orientation 180 _ (omega arith) refl a.orientations, below layout.offset 180 _ (omega arith) refl a.offsets, below layout.included 180 _ (omega arith) refl a.includeds)

  codes_as : (m : ℕ) → width_of rows layout.bearing ≡ 0
      → CodesAnswer (read s rows layout.orientation) (read s rows layout.offset) (read s rows layout.included) (read s rows layout.confidence) m
      → Unless (AnglesSound rows (read s rows)) 5 (Unless (ConfidenceSound rows (read s rows)) 6 Else0) m
  codes_as m none =
      unless-as (λ a. record { orientations = λ u. a.0; offsets = λ u. a.1; includeds = λ u. a.2; bearings = λ u. absurd (omega arith) }) from-angles
      (unless-as (λ c. record { confidences = λ u. c }) (λ c. below layout.confidence 101 _ (omega arith) refl c.confidences) (λ e. e))

no-bearing : (k : Kind) (n : ℕ) → width_of (shape_rows k n) layout.bearing ≡ 0
no-bearing Nothing n = refl
no-bearing Point n = refl
no-bearing Circle n = refl
no-bearing Ellipse n = refl
no-bearing Polygon n = none_found n layout.bearing (omega arith) (λ l. absurd (omega arith))
no-bearing AltitudePoint n = refl
no-bearing AltitudeEllipsoid n = refl
no-bearing Arc n = refl

-- ---- the whole answer, from the form's and the codes'

module _ (s : List ℕ) where
  count-read : (k : Kind) → Used (rows_for k s) layout.count → read s (rows_for k s) layout.count ≡ bits s 4 4
  count-read Nothing u = absurd (omega arith)
  count-read Point u = absurd (omega arith)
  count-read Circle u = absurd (omega arith)
  count-read Ellipse u = absurd (omega arith)
  count-read Polygon u = refl
  count-read AltitudePoint u = absurd (omega arith)
  count-read AltitudeEllipsoid u = absurd (omega arith)
  count-read Arc u = absurd (omega arith)

  counted : CountSound (rows_in s) (λ f. bits s 4 4) → CountSound (rows_in s) (read s (rows_in s))
  counted c = record { least = λ u. rw (count-read (kind_in s) u) (c.least u); most = λ u. rw (count-read (kind_in s) u) (c.most u) }

  count_of : CountSound (rows_in s) (read s (rows_in s)) → CountSound (rows_in s) (λ f. bits s 4 4)
  count_of c = record { least = λ u. rw (count-read (kind_in s) u) at (c.least u); most = λ u. rw (count-read (kind_in s) u) at (c.most u) }

  abbrev Form : ℕ → Type 0
  Form = MessageFormAnswer (kind_in s) (bits s 4 4) (length s)

  abbrev Codes : Shape → ℕ → Type 0
  Codes x = CodesAnswer x.orientation.0 x.offset.0 x.included.0 x.confidence.0

  whole : (m : ℕ) → 0 < length s → Form 0 → Codes (shape_in s) m → ReadAnswer (rows_in s) s m
  whole m some a c =
      let l = when-done _ 2 _ (λ e. absurd (omega arith)) a in
      let n = when-done _ 4 _ (λ e. absurd (omega arith)) l.1 in
      let w = when-done _ 3 _ (λ e. absurd (omega arith)) n.1 in
      met some (met l.0 (met (counted n.0) (met w.0 (codes_as s (rows_in s) m (no-bearing (kind_in s) (bits s 4 4)) c))))

  no-form : (why : Refusal) → 0 < length s → Form (number_of why) → ReadAnswer (rows_in s) s (number_of why)
  no-form why some a =
      met some (unless-as (λ l. l) (λ l. l) (unless-as counted count_of (unless-as (λ w. w) (λ w. w) (λ e. absurd (not-0 why e)))) a)

  pub refused-read : (why : Refusal) → ReadAnswer (rows_in s) s (number_of why) → ReadsShape s (Err why)
  refused-read why a = record { answer = a; shape = tt }

-- ---- what the parts give for the kind k and the count n of a first octet

pub record Starts (s : List ℕ) (k : Kind) (n : ℕ) : Type 0 where
  pub some : 0 < length s
  pub kind : k ≡ kind_in s
  pub count : n ≡ bits s 4 4

pub starts : (s : List ℕ) (first : ℕ) (k : Kind) → 0 < length s → first ≡ bits s 0 8 → k ≡ kind_of (first / 16) → Starts s k (first % 16)
starts s first k h e f = record {
  some = h;
  kind = f ∙ ap (λ (o : ℕ). kind_of (o / 16)) e ∙ ap kind_of (bits-high s 0 4 4);
  count = ap (λ (o : ℕ). o % 16) e ∙ bits-low s 0 4 4;
}

module _ (s : List ℕ) (k : Kind) (n : ℕ) (first : Starts s k n) where
  own : (m : ℕ) → MessageFormAnswer k n (length s) m → Form s m
  own m a =
      subst (λ (j : Kind). MessageFormAnswer j (bits s 4 4) (length s) m) first.kind
      (subst (λ (i : ℕ). MessageFormAnswer k i (length s) m) first.count a)

  pub form-refused : (why : Refusal) → MessageFormAnswer k n (length s) (number_of why) → ReadsShape s (Err why)
  form-refused why a = refused-read s why (no-form s why first.some (own _ a))

  module _ (a : MessageFormAnswer k n (length s) 0) where
    pub of_length : ShapeOfLength k s
    of_length =
        let l = when-done _ 2 _ (λ z. absurd (omega arith)) (own 0 a) in
        let n = when-done _ 4 _ (λ z. absurd (omega arith)) l.1 in
        let w = when-done _ 3 _ (λ z. absurd (omega arith)) n.1 in
        subst (λ (j : Kind). ShapeOfLength j s) (sym first.kind) w.0

    -- the record x, and the answer to its codes
    module _ (x : Shape) (f : x ≡ shape_of_kind k s) where
      in-octets : x ≡ shape_in s
      in-octets = f ∙ ap (λ (j : Kind). shape_of_kind j s) first.kind

      answered : (m : ℕ) → Codes s x m → ReadAnswer (rows_in s) s m
      answered m c = whole s m first.some (own 0 a) (subst (λ (y : Shape). Codes s y m) in-octets c)

      pub codes-refused : (why : Refusal) → Codes s x (number_of why) → ReadsShape s (Err why)
      codes-refused why c = refused-read s why (answered _ c)

      pub done-read : Codes s x 0 → ReadsShape s (Ok x)
      done-read c = record { answer = answered 0 c; shape = in-octets }
