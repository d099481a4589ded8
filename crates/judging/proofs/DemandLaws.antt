-- The answer to the codes of a record, for each kind, and the record's answer from it.
use Prim.Native.Nat.{ℕ, ◌≤◌, ◌<◌}
use mathlib.Core.Path.{◌≡◌, refl, sym, subst, ◌∙◌}
use mathlib.Core.List.{List}
use native.Mathlib.Omega.{arith}
use Rattle.ground.specs.Answers.{Unless, Else0, unmet, met}
use Rattle.ground.proofs.AnswerLaws.{when-done, unless-as}
use Rattle.layout.specs.declared.shape.Kind.{Kind}
use Rattle.layout.specs.declared.shape.Kind.TheVariants.{Nothing, Point, Circle, Ellipse, Polygon, AltitudePoint, AltitudeEllipsoid, Arc}
use Rattle.layout.specs.Layout.{MessageField, Row, shape_rows}
use Rattle.layout.specs.Layout as layout
use Rattle.layout.specs.Rows.{tag, width_of}
use Rattle.layout.specs.Demands.{TypeKnown, CountSound, AnglesSound, ConfidenceSound, InFields, CodesAnswer}
use Rattle.layout.proofs.PolygonLaws.{polygon-length, none_found}
use Rattle.code_arrays.specs.CodeNumbers.{element_at}
use Rattle.code_arrays.specs.Shapes.{array_kind, array_rows, value_in}
use Rattle.code_arrays.proofs.ArrayLaws.{same-element}
use Rattle.judging.specs.Judging.{RecordAnswer, CodesAnswerOf, CountAnswer}

-- ---- any rows

module _ (rows : List Row) (value : MessageField → ℕ) where
  unused : {A : Type 0} (f : MessageField) → width_of rows f ≡ 0 → 0 < width_of rows f → A
  unused f e u = absurd (omega arith)

  no-count : width_of rows layout.count ≡ 0 → CountSound rows value
  no-count e = record { least = unused layout.count e; most = unused layout.count e }

  no-angles : width_of rows layout.orientation ≡ 0 → width_of rows layout.offset ≡ 0 → width_of rows layout.included ≡ 0 → width_of rows layout.bearing ≡ 0 → AnglesSound rows value
  no-angles a b c d = record { orientations = unused layout.orientation a; offsets = unused layout.offset b; includeds = unused layout.included c; bearings = unused layout.bearing d }

  no-confidence : width_of rows layout.confidence ≡ 0 → ConfidenceSound rows value
  no-confidence e = record { confidences = unused layout.confidence e }

  -- neither count, angle nor confidence
  plain : TypeKnown rows → width_of rows layout.count ≡ 0 → width_of rows layout.orientation ≡ 0 → width_of rows layout.offset ≡ 0 → width_of rows layout.included ≡ 0 → width_of rows layout.bearing ≡ 0 → width_of rows layout.confidence ≡ 0 → CodesAnswerOf rows value 0
  plain l a b c d f g = met l (met (no-count a) (met (no-angles b c d f) (met (no-confidence g) refl)))

  coded : (a b c m : ℕ) → TypeKnown rows → CountSound rows value → ((a < 180) × (b < 180) × (c < 180) → AnglesSound rows value) → (AnglesSound rows value → (a < 180) × (b < 180) × (c < 180)) → 0 < width_of rows layout.confidence
      → CodesAnswer a b c (value layout.confidence) m → CodesAnswerOf rows value m
  coded a b c m l n to from u h =
      met l (met n (unless-as to from (unless-as (λ l. record { confidences = λ _. l }) (λ s. s.confidences u) (λ e. e)) h))

  -- an orientation and a confidence
  oriented : (m : ℕ) → TypeKnown rows → width_of rows layout.count ≡ 0 → 0 < width_of rows layout.orientation → width_of rows layout.offset ≡ 0 → width_of rows layout.included ≡ 0 → width_of rows layout.bearing ≡ 0 → 0 < width_of rows layout.confidence
      → CodesAnswer (value layout.orientation) 0 0 (value layout.confidence) m → CodesAnswerOf rows value m
  oriented m l a b c d f g h =
      coded (value layout.orientation) 0 0 m l (no-count a)
      (λ p. record { orientations = λ _. p.0; offsets = unused layout.offset c; includeds = unused layout.included d; bearings = unused layout.bearing f })
      (λ s. (s.orientations b, omega arith, omega arith)) g h

-- ---- each kind

-- the answer that is given for a kind, by its count, orientation, offset, included and confidence
abbrev pub KindAnswer : Kind → ℕ → ℕ → ℕ → ℕ → ℕ → ℕ → Type 0
KindAnswer Nothing n a b c d m = m ≡ 2
KindAnswer Point n a b c d m = m ≡ 0
KindAnswer Circle n a b c d m = m ≡ 0
KindAnswer Ellipse n a b c d m = CodesAnswer a 0 0 d m
KindAnswer Polygon n a b c d m = CountAnswer n m
KindAnswer AltitudePoint n a b c d m = m ≡ 0
KindAnswer AltitudeEllipsoid n a b c d m = CodesAnswer a 0 0 d m
KindAnswer Arc n a b c d m = CodesAnswer 0 b c d m

module _ (n : ℕ) (value : MessageField → ℕ) where
  pub kind-codes : (k : Kind) (m : ℕ) → KindAnswer k (value layout.count) (value layout.orientation) (value layout.offset) (value layout.included) (value layout.confidence) m → CodesAnswerOf (shape_rows k n) value m
  kind-codes Nothing m h = unmet (λ l. absurd (omega arith)) h
  kind-codes Point m h = rw h (plain (shape_rows Point n) value (omega arith) refl refl refl refl refl refl)
  kind-codes Circle m h = rw h (plain (shape_rows Circle n) value (omega arith) refl refl refl refl refl refl)
  kind-codes Ellipse m h = oriented (shape_rows Ellipse n) value m (omega arith) refl (omega arith) refl refl refl (omega arith) h
  kind-codes Polygon m h =
      met (rw (polygon-length n) (omega arith))
      (unless-as (λ p. record { least = λ _. p.0; most = λ _. p.1 }) (λ s. (s.least (omega arith), s.most (omega arith)))
      (λ z. met (no-angles (shape_rows Polygon n) value (none layout.orientation (omega arith) (omega arith)) (none layout.offset (omega arith) (omega arith)) (none layout.included (omega arith) (omega arith)) (none layout.bearing (omega arith) (omega arith)))
      (met (no-confidence (shape_rows Polygon n) value (none layout.confidence (omega arith) (omega arith))) z)) h)
    where
      none : (f : MessageField) → 2 ≤ tag f → tag f < 22 → width_of (shape_rows Polygon n) f ≡ 0
      none f a b = none_found n f a (λ l. absurd (omega arith))
  kind-codes AltitudePoint m h = rw h (plain (shape_rows AltitudePoint n) value (omega arith) refl refl refl refl refl refl)
  kind-codes AltitudeEllipsoid m h = oriented (shape_rows AltitudeEllipsoid n) value m (omega arith) refl (omega arith) refl refl refl (omega arith) h
  kind-codes Arc m h =
      coded (shape_rows Arc n) value 0 (value layout.offset) (value layout.included) m (omega arith) (no-count (shape_rows Arc n) value refl)
      (λ p. record { orientations = unused (shape_rows Arc n) value layout.orientation refl; offsets = λ _. p.1; includeds = λ _. p.2; bearings = unused (shape_rows Arc n) value layout.bearing refl })
      (λ s. (omega arith, s.offsets (omega arith), s.includeds (omega arith))) (omega arith) h

-- and for the kind that elements say, by their numbers
pub elements-codes : (elements : List ℕ) {kind k : Kind} {m : ℕ} → kind ≡ array_kind elements → kind ≡ k → KindAnswer k (element_at elements 1) (element_at elements 10) (element_at elements 13) (element_at elements 14) (element_at elements 15) m → CodesAnswerOf (array_rows elements) (value_in elements) m
elements-codes elements {k = k} {m = m} e f h =
    subst (λ (k : Kind). CodesAnswerOf (shape_rows k (value_in elements layout.count)) (value_in elements) m) (sym f ∙ e)
    (kind-codes (value_in elements layout.count) (value_in elements) k m (rw (same-element elements 1 (omega arith), same-element elements 10 (omega arith), same-element elements 13 (omega arith), same-element elements 14 (omega arith), same-element elements 15 (omega arith)) at h))

-- ---- any record's answer

-- the same demand, and other demands after it
pub next : {P : Type 0} {n m : ℕ} {A B : ℕ → Type 0} → (A m → B m) → Unless P n A m → Unless P n B m
next others = unless-as (λ p. p) (λ p. p) others

module _ {rows : List Row} {value : MessageField → ℕ} where
  -- what 0 says of 2, 4, 5 and 6, whatever comes after them
  pub passed : {A : ℕ → Type 0} → Unless (TypeKnown rows) 2 (Unless (CountSound rows value) 4 (Unless (AnglesSound rows value) 5 (Unless (ConfidenceSound rows value) 6 A))) 0
      → TypeKnown rows × CountSound rows value × AnglesSound rows value × ConfidenceSound rows value × A 0
  passed h =
      let a = when-done _ _ _ (λ e. absurd (omega arith)) h in
      let b = when-done _ _ _ (λ e. absurd (omega arith)) a.1 in
      let c = when-done _ _ _ (λ e. absurd (omega arith)) b.1 in
      let d = when-done _ _ _ (λ e. absurd (omega arith)) c.1 in
      (a.0, b.0, c.0, d.0, d.1)

  pub whole : {m : ℕ} → CodesAnswerOf rows value 0 → Unless (InFields rows value) 7 Else0 m → RecordAnswer rows value m
  whole h r =
      let p = passed h in
      met p.0 (met p.1 (met p.2 (met p.3 r)))
