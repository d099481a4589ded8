-- The elements of a record say the record, where it is of some kind.
use Rattle.std.specs.Prelude.{Result}
use Prim.Native.Nat.{ℕ, zero, suc, ◌+◌, ◌-◌, ◌*◌, ◌≤◌, ◌<◌}
use mathlib.Core.Path.{◌≡◌, refl, sym, ap, subst, ◌∙◌}
use mathlib.Core.Bool.{Bool, true, false}
use mathlib.Core.List.{List, [], ◌∷◌}
use native.Mathlib.Omega.{arith}
use lib.Dec.{ltb}
use lib.IntN.{ℤ, pos, negsuc}
use lib.Signed.{mag}
use lib.ListN.{length, get_or, take, get_or-append, get_or-eq_default}
use lib.Seq.{get_or-append-add}
use borrow.Author.Tests.{ltb-true, ltb-false, lt-ltb, le-ltb}
use mir.Val.{Val}
use denote.Array.{each}
use denote.Laws.{Is}
use denote.Shadow.{shadow}
use denote.Struct.Declared.{row}
use Rattle.ground.specs.declared.code.LatitudeCode.{LatitudeCode}
use Rattle.ground.specs.declared.code.LongitudeCode.{LongitudeCode}
use Rattle.ground.specs.contracts.code.LongitudeCode.{the_row}
use Rattle.ground.specs.declared.refusals.Refusal.{Refusal}
use Rattle.octets.specs.Codes.{bit_of, complement}
use Rattle.layout.specs.declared.shape.Kind.{Kind}
use Rattle.layout.specs.declared.shape.Kind.TheVariants.{Nothing, Point, Circle, Ellipse, Polygon, AltitudePoint, AltitudeEllipsoid, Arc}
use Rattle.layout.specs.declared.shape.Shape.{Shape}
use Rattle.layout.specs.Layout.{MessageField, Row, shape_rows, type_of}
use Rattle.layout.specs.Layout as layout
use Rattle.layout.specs.Demands.{Writes}
use Rattle.layout.specs.Shapes.{kind_of, value_of, rows_of, zero_latitude, zero_longitude, WritesShape}
use Rattle.layout.specs.contracts.shape.Shape.{the_type}
use Rattle.code_arrays.specs.CodeNumbers.{element_at, from_bits, bits_of}
use Rattle.code_arrays.specs.Shapes.{single_elements, point_elements, shape_elements, array_rows, value_in}
use Rattle.code_arrays.proofs.PointLaws.{length-points}
use Rattle.code_arrays.proofs.ArrayLaws.{same-element, no-element}
use Rattle.judging.specs.Judging.{RecordAnswer}
use Rattle.judging.proofs.RoomLaws.{roomy}
use Rattle.composing.specs.Composing.{WritesElements}
use Rattle.writing.specs.Writing.{ShapeAnswer}

-- a number of 32 bits with a sign, from its bits
bits_back : (z : ℤ) → mag z < 2147483648 → from_bits (bits_of z) ≡ z
bits_back (pos n) h = simp (lt-ltb n 2147483648 h)
bits_back (negsuc n) h =
    let e : 4294967295 - (4294967295 - n) ≡ n = omega arith in
    simp (le-ltb (4294967295 - n) 2147483648 (omega arith)) (ap negsuc e)

pub kind-said : (k : Kind) → (k ≡ Nothing → ⊥) → kind_of (type_of k) ≡ k
kind-said Nothing h = absurd (h refl)
kind-said Point h = refl
kind-said Circle h = refl
kind-said Ellipse h = refl
kind-said Polygon h = refl
kind-said AltitudePoint h = refl
kind-said AltitudeEllipsoid h = refl
kind-said Arc h = refl

-- ---- the elements of points

module _ (latitudes : List LatitudeCode) (longitudes : List LongitudeCode) where
  -- S, latitude and longitude of point i
  abbrev three : ℕ → List ℕ
  three i = bit_of (get_or latitudes i zero_latitude).0 ∷ (get_or latitudes i zero_latitude).1 ∷ bits_of (get_or longitudes i zero_longitude).0 ∷ []

  point-element : (n i r : ℕ) → i < n → r < 3 → get_or (point_elements latitudes longitudes n) (3 * i + r) 0 ≡ get_or (three i) r 0
  point-element zero i r h l = absurd (omega arith)
  point-element (suc n) i r h l = by (λ m. point-element n i r m l) (ltb i n) refl
    where
      by : (i < n → get_or (point_elements latitudes longitudes n) (3 * i + r) 0 ≡ get_or (three i) r 0) → (b : Bool) → ltb i n ≡ b → get_or (point_elements latitudes longitudes (suc n)) (3 * i + r) 0 ≡ get_or (three i) r 0
      by before true e =
          let m : i < n = ltb-true i n e in
          get_or-append (point_elements latitudes longitudes n) (three n) 0 (3 * i + r) (omega (arith, length-points latitudes longitudes n)) ∙ before m
      by before false e =
          let m : i ≡ n = omega (arith, ltb-false i n e) in
          ap (λ (k : ℕ). get_or (point_elements latitudes longitudes (suc n)) (3 * k + r) 0) m
          ∙ ap (λ (k : ℕ). get_or (point_elements latitudes longitudes (suc n)) (k + r) 0) (sym (length-points latitudes longitudes n))
          ∙ get_or-append-add (point_elements latitudes longitudes n) (three n) r 0
          ∙ ap (λ (k : ℕ). get_or (three k) r 0) (sym m)

no_number : (r : ℕ) → ◌≡◌ {A = ℕ} (get_or (0 ∷ 0 ∷ 0 ∷ []) r 0) 0
no_number zero = refl
no_number (suc zero) = refl
no_number (suc (suc zero)) = refl
no_number (suc (suc (suc r))) = refl

-- ---- what a record's type says of it

each-held : (xs : List LongitudeCode) (us : List _) → shadow (each the_row.Denot the_row.own_val xs us) → (i : ℕ) → mag (get_or xs i zero_longitude).0 < 2147483648
each-held [] us s i = omega arith
each-held (x ∷ xs) [] s i = absurd s
each-held (x ∷ xs) (u ∷ us) s zero = omega (arith, s.0.1.1.0)
each-held (x ∷ xs) (u ∷ us) s (suc i) = each-held xs us s.1 i

-- fifteen points, and longitudes of 32 bits
pub record Held (x : Shape) : Type 0 where
  pub latitudes : length x.latitudes ≡ 15
  pub longitudes : length x.longitudes ≡ 15
  pub turn : mag x.longitude.0 < 2147483648
  pub turns : (i : ℕ) → mag (get_or x.longitudes i zero_longitude).0 < 2147483648

pub held : (x : Shape) (vs : List Val) → Is (row the_type) x vs → Held x
held x vs g =
    let f = g.1.1 in
    let l = f.1.1.1.1.1.1.1.1.1.1.1.1.1.1 in
    record { latitudes = l.0.1.0.1; longitudes = l.1.0.1.0.1; turn = omega (arith, f.1.1.0.1.1.0); turns = each-held x.longitudes _ l.1.0.1.1 }

-- ---- the record

module _ (x : Shape) (holds : Held x) where
  elements-at : (r i at : ℕ) → r < 3 → at ≡ 16 + (3 * i + r) → element_at (take 61 (shape_elements x)) at ≡ get_or (three x.latitudes x.longitudes i) r 0
  elements-at r i at l e = by (ltb i 15) refl
    where
      by : (b : Bool) → ltb i 15 ≡ b → element_at (take 61 (shape_elements x)) at ≡ get_or (three x.latitudes x.longitudes i) r 0
      by true t =
          let m : i < 15 = ltb-true i 15 t in
          sym (same-element (shape_elements x) at (omega arith))
          ∙ ap (λ (k : ℕ). element_at (shape_elements x) k) e
          ∙ get_or-append-add (single_elements x) (point_elements x.latitudes x.longitudes 15) (3 * i + r) 0
          ∙ point-element x.latitudes x.longitudes 15 i r m l
      by false t =
          let m : 15 ≤ i = ltb-false i 15 t in
          let p = get_or-eq_default x.latitudes zero_latitude {n = i} (omega (arith, holds.latitudes)) in
          let q = get_or-eq_default x.longitudes zero_longitude {n = i} (omega (arith, holds.longitudes)) in
          sym (no-element (shape_elements x) at (omega arith)) ∙ sym (no_number r) ∙ sym (λ j. get_or (bit_of (p j).0 ∷ (p j).1 ∷ bits_of (q j).0 ∷ []) r 0)

  pub value-said : (f : MessageField) → value_in (shape_elements x) f ≡ value_of x f
  value-said layout.type_number = refl
  value-said layout.count = refl
  value-said (layout.south zero) = refl
  value-said (layout.south (suc i)) = elements-at 0 i (16 + 3 * i) (omega arith) (omega arith)
  value-said (layout.latitude zero) = refl
  value-said (layout.latitude (suc i)) = elements-at 1 i (17 + 3 * i) (omega arith) (omega arith)
  value-said (layout.longitude zero) = ap complement (bits_back x.longitude.0 holds.turn)
  value-said (layout.longitude (suc i)) =
      ap (λ (n : ℕ). complement (from_bits n)) (elements-at 2 i (18 + 3 * i) (omega arith) (omega arith)) ∙ ap complement (bits_back (get_or x.longitudes i zero_longitude).0 (holds.turns i))
  value-said layout.depth = refl
  value-said layout.altitude = refl
  value-said layout.uncertainty = refl
  value-said layout.semi_major = refl
  value-said layout.semi_minor = refl
  value-said layout.orientation = refl
  value-said layout.altitude_uncertainty = refl
  value-said layout.confidence = refl
  value-said layout.inner_radius = refl
  value-said layout.offset = refl
  value-said layout.included = refl
  value-said layout.bearing = refl
  value-said layout.horizontal_speed = refl
  value-said layout.down = refl
  value-said layout.vertical_speed = refl
  value-said layout.speed_uncertainty = refl
  value-said layout.vertical_uncertainty = refl

  module _ (some : x.kind ≡ Nothing → ⊥) where
    rows-said : array_rows (shape_elements x) ≡ rows_of x
    rows-said = ap (λ (k : Kind). shape_rows k x.count) (kind-said x.kind some)

    -- what is said of the elements' numbers is said of the record's
    said : (P : List Row → (MessageField → ℕ) → Type 0) → P (array_rows (shape_elements x)) (value_in (shape_elements x)) → P (rows_of x) (value_of x)
    said P h = subst (P (rows_of x)) (λ i f. value-said f i) (subst (λ (rows : List Row). P rows (value_in (shape_elements x))) rows-said h)

    pub writes-said : {before after : List ℕ} {w : Result ℕ Refusal} → WritesElements (shape_elements x) before after w → WritesShape x before after w
    writes-said {before} {after} {w} = said (λ rows value. Writes rows value before after w)

    pub answer-said : {m : ℕ} → RecordAnswer (array_rows (shape_elements x)) (value_in (shape_elements x)) m → ShapeAnswer x m
    answer-said {m} h = roomy m (said (λ rows value. RecordAnswer rows value m) h)
