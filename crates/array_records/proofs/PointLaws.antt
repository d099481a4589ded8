-- The points of elements: which coordinates they are, when all are kept, and one more that is put.
use Prim.Native.Nat.{ℕ, zero, suc, ◌+◌, ◌*◌, ◌-◌, ◌≤◌, ◌<◌, ◌/◌, ◌%◌}
use mathlib.Core.Path.{◌≡◌, refl, sym, ap, ◌∙◌, subst}
use mathlib.Core.Bool.{Bool, true, false}
use mathlib.Core.List.{List}
use native.Mathlib.Omega.{arith}
use lib.Dec.{T, ltb, eqb}
use lib.IntN.{ℤ, pos}
use lib.Signed.{mag}
use lib.ListN.{length, get_or, set, replicate, length-set, get_or-eq_default}
use lib.Seq.{sets, get_or-set_same, get_or-set_other}
use mir.Syntax.{w64}
use mir.Val.{to_z, of_z}
use borrow.Author.Count.{below_more}
use borrow.Author.Tests.{ltb-true, ltb-false, lt-ltb, le-ltb, eqb-true, eqb-false}
use Rattle.ground.specs.Answers.{Decides, done}
use Rattle.ground.specs.declared.code.LatitudeCode.{LatitudeCode}
use Rattle.ground.specs.declared.code.LongitudeCode.{LongitudeCode}
use Rattle.ground.specs.declared.quantity.Nanodegrees.{Nanodegrees}
use Rattle.fields.specs.Fields.{Coding}
use Rattle.fields.specs.Fields as field
use Rattle.layout.specs.Shapes.{upto, zero_latitude, zero_longitude}
use Rattle.layout.proofs.ShapeRecords.{length-upto, at-upto}
use Rattle.quantities.specs.Shapes.{zero_degrees}
use Rattle.quantities.proofs.TestLaws.{never}
use Rattle.quantities.proofs.ZeroLaws.{not-refused}
use Rattle.outline_codes.specs.declared.points.Points.{Points}
use Rattle.outline_codes.specs.declared.points.PointCode.{PointCode}
use Rattle.ground.specs.declared.refusals.Refusal.{Refusal}
use Rattle.std.specs.Prelude.{Result, Ok, Err}
use Rattle.std.specs.Result.{is_err, IsOk}
use Rattle.outline_codes.specs.Points.{PointKept, PointCodes, CodesPoint, PointsKept, PointsCodes}
use Rattle.code_arrays.specs.QuantityNumbers.{quantity_in}
use Rattle.code_arrays.proofs.NumberLaws.{element-read}
use Rattle.code_arrays.specs.Shapes.{point_element, point_elements}
use Rattle.code_arrays.proofs.PointLaws.{more}
use Rattle.quantity_arrays.specs.Shapes.{coordinate_in, quantities_in}
use Rattle.array_records.specs.Records.{UsedKept, NoQuantitiesFrom, UsedCodes, PointsInRange, PutsPointCodes}

-- what the answer of a point that is used says: an error that it is not kept, else its codes
module _ {x y : Nanodegrees} where
  pub refused-point : (r : Result PointCode Refusal) → is_err r ≡ true → CodesPoint true x y r → PointKept true x y → ⊥
  refused-point (Ok p) e h = absurd (subst T (sym e) tt)
  refused-point (Err why) e h = h.1

  pub coded-point : (r : Result PointCode Refusal) → is_err r ≡ false → CodesPoint true x y r → (p : PointCode) × PointCodes true x y p.latitude p.longitude
  coded-point (Ok p) e h = (p, h)
  coded-point (Err why) e h = absurd (subst T e tt)

  pub kept-point : (r : Result PointCode Refusal) → PointKept true x y → CodesPoint true x y r → IsOk r
  kept-point (Ok p) k h = refl
  kept-point (Err why) k h = absurd (h.1 k)

module _ (elements : List ℤ) where
  latitude-at : (i : ℕ) → i < 15 → get_or (quantities_in elements).latitudes i zero_degrees ≡ coordinate_in elements 14 i
  latitude-at i h = at-upto (coordinate_in elements 14) 15 i zero_degrees h

  longitude-at : (i : ℕ) → i < 15 → get_or (quantities_in elements).longitudes i zero_degrees ≡ coordinate_in elements 15 i
  longitude-at i h = at-upto (coordinate_in elements 15) 15 i zero_degrees h

  -- the codes of the two elements that were read
  pub coded-at : (i : ℕ) → i < 15 → mag (quantity_in elements (14 + 2 * i)) < 9223372036854775808 → mag (quantity_in elements (15 + 2 * i)) < 9223372036854775808
      → (r : Result PointCode Refusal) → CodesPoint true (record { 0 = to_z w64 (of_z w64 (quantity_in elements (14 + 2 * i))) }) (record { 0 = to_z w64 (of_z w64 (quantity_in elements (15 + 2 * i))) }) r
      → CodesPoint true (get_or (quantities_in elements).latitudes i zero_degrees) (get_or (quantities_in elements).longitudes i zero_degrees) r
  coded-at i h a b r p = rw (latitude-at i h, longitude-at i h) (rw (element-read {z = quantity_in elements (14 + 2 * i)} a, element-read {z = quantity_in elements (15 + 2 * i)} b) at p)

  -- ---- all that are used are in range, and no number comes after them

  module _ (n : ℕ) (few : n ≤ 15) where
    past : (first i : ℕ) → first ≤ 15 → 14 ≤ first → NoQuantitiesFrom elements (14 + 2 * n) → n ≤ i → get_or (upto 15 (coordinate_in elements first)) i zero_degrees ≡ zero_degrees
    past first i a b none h = by (ltb i 15) refl
      where
        by : (t : Bool) → ltb i 15 ≡ t → get_or (upto 15 (coordinate_in elements first)) i zero_degrees ≡ zero_degrees
        by true e =
            let l : i < 15 = ltb-true i 15 e in
            at-upto (coordinate_in elements first) 15 i zero_degrees l ∙ ap {B = Nanodegrees} (λ (z : ℤ). record { 0 = z }) (none (first + 2 * i) (omega arith) (omega arith))
        by false e =
            let l : 15 ≤ i = ltb-false i 15 e in
            get_or-eq_default (upto 15 (coordinate_in elements first)) zero_degrees {n = i} (omega (arith, length-upto (coordinate_in elements first) 15))

    pub all-kept : UsedKept elements n → NoQuantitiesFrom elements (14 + 2 * n) → PointsKept (quantities_in elements).latitudes (quantities_in elements).longitudes n
    all-kept used none i = record {
      latitudes = λ e. (used i (ltb-true i n e)).latitudes refl;
      longitudes = λ e. (used i (ltb-true i n e)).longitudes refl;
      no_latitudes = λ e. past 14 i (omega arith) (omega arith) none (ltb-false i n e);
      no_longitudes = λ e. past 15 i (omega arith) (omega arith) none (ltb-false i n e);
    }

    module _ (kept : PointsKept (quantities_in elements).latitudes (quantities_in elements).longitudes n) where
      pub used-kept : UsedKept elements n
      used-kept i h = rw (lt-ltb i n h) at (kept i)

      none-at : (i : ℕ) → n ≤ i → i < 15 → (quantity_in elements (14 + 2 * i) ≡ pos 0) × (quantity_in elements (15 + 2 * i) ≡ pos 0)
      none-at i h l = (
        ap {A = Nanodegrees} (λ x. x.0) (sym (latitude-at i l) ∙ (kept i).no_latitudes (le-ltb i n h)),
        ap {A = Nanodegrees} (λ x. x.0) (sym (longitude-at i l) ∙ (kept i).no_longitudes (le-ltb i n h)),
      )

      -- an element is its point's latitude or longitude
      pub none_kept : NoQuantitiesFrom elements (14 + 2 * n)
      none_kept at h l = by (eqb (at % 2) 0) refl
        where
          point : (quantity_in elements (14 + 2 * ((at - 14) / 2)) ≡ pos 0) × (quantity_in elements (15 + 2 * ((at - 14) / 2)) ≡ pos 0)
          point = none-at ((at - 14) / 2) (omega arith) (omega arith)

          by : (t : Bool) → eqb (at % 2) 0 ≡ t → quantity_in elements at ≡ pos 0
          by true e = let w : 14 + 2 * ((at - 14) / 2) ≡ at = omega (arith, eqb-true (at % 2) 0 e) in rw w at point.0
          by false e = let w : 15 + 2 * ((at - 14) / 2) ≡ at = omega (arith, eqb-false (at % 2) 0 e) in rw w at point.1

-- ---- one more that is put

module _ (latitudes : List LatitudeCode) (longitudes : List LongitudeCode) (i : ℕ) (a : LatitudeCode) (b : LongitudeCode) where
  -- the elements of those before it stay
  before-it : (n : ℕ) → n ≤ i → point_elements (set latitudes i a) (set longitudes i b) n ≡ point_elements latitudes longitudes n
  before-it zero h = refl
  before-it (suc n) h =
      let apart : n ≡ i → ⊥ = λ e. absurd (omega arith) in
      rw (before-it n (omega arith), get_or-set_other latitudes i n a zero_latitude apart, get_or-set_other longitudes i n b zero_longitude apart)

-- a list of fifteen of which the point i is set: what holds of those before it and of this one, and what comes after it
module _ {C : Type 0} (l : List C) (z : C) (i : ℕ) (c : C) where
  upto-it : (P : ℕ → C → Type 0) → i < length l → ((k : ℕ) → k < i → P k (get_or l k z)) → P i c → (k : ℕ) → k < i + 1 → P k (get_or (set l i c) k z)
  upto-it P h before this =
      below_more (λ k. P k (get_or (set l i c) k z)) i
      (λ k m. let apart : k ≡ i → ⊥ = λ e. absurd (omega arith) in rw (get_or-set_other l i k c z apart) (before k m))
      (rw (get_or-set_same l i c z h) this)

  after-it : ((k : ℕ) → i ≤ k → get_or l k z ≡ z) → (k : ℕ) → i + 1 ≤ k → get_or (set l i c) k z ≡ z
  after-it none k h = let apart : k ≡ i → ⊥ = λ e. absurd (omega arith) in get_or-set_other l i k c z apart ∙ none k (omega arith)

zeros : {C : Type 0} (z : C) (n k : ℕ) → get_or (replicate n z) k z ≡ z
zeros z zero k = refl
zeros z (suc n) zero = refl
zeros z (suc n) (suc k) = zeros z n k

module _ (elements : List ℤ) where
  pub none-coded : UsedCodes elements 0
  none-coded = record {
    latitudes = replicate 15 zero_latitude;
    longitudes = replicate 15 zero_longitude;
    all_latitudes = refl;
    all_longitudes = refl;
    coded_latitudes = λ i h. absurd (omega arith);
    coded_longitudes = λ i h. absurd (omega arith);
    ended = record { most = omega arith; no_latitude = λ i h. zeros zero_latitude 15 i; no_longitude = λ i h. zeros zero_longitude 15 i };
  }

  module _ (i : ℕ) (l : i < 15) (u : UsedCodes elements i) {a : LatitudeCode} {b : LongitudeCode} (codes : PointCodes true (get_or (quantities_in elements).latitudes i zero_degrees) (get_or (quantities_in elements).longitudes i zero_degrees) a b) where
    north : i < length u.latitudes
    north = let s = u.all_latitudes in omega arith

    east : i < length u.longitudes
    east = let s = u.all_longitudes in omega arith

    pub one-coded : UsedCodes elements (i + 1)
    one-coded = record {
      latitudes = set u.latitudes i a;
      longitudes = set u.longitudes i b;
      all_latitudes = length-set u.latitudes i a ∙ u.all_latitudes;
      all_longitudes = length-set u.longitudes i b ∙ u.all_longitudes;
      coded_latitudes = upto-it u.latitudes zero_latitude i a (λ k c. Coding field.latitude (get_or (quantities_in elements).latitudes k zero_degrees) (done c)) north u.coded_latitudes (codes.latitudes refl);
      coded_longitudes = upto-it u.longitudes zero_longitude i b (λ k c. Coding field.longitude (get_or (quantities_in elements).longitudes k zero_degrees) (done c)) east u.coded_longitudes (codes.longitudes refl);
      ended = record {
        most = omega arith;
        no_latitude = after-it u.latitudes zero_latitude i a u.ended.no_latitude;
        no_longitude = after-it u.longitudes zero_longitude i b u.ended.no_longitude;
      };
    }

  pub one-put : {before out : List ℕ} (i : ℕ) → i < 15 → PutsPointCodes elements i before out → {a : LatitudeCode} {b : LongitudeCode}
      → PointCodes true (get_or (quantities_in elements).latitudes i zero_degrees) (get_or (quantities_in elements).longitudes i zero_degrees) a b → PutsPointCodes elements (i + 1) before (sets out (16 + 3 * i) (point_element a b))
  unfolding one-coded
  one-put {before} {out} i l p {a} {b} codes =
      let u = p.codes in
      record {
        codes = one-coded i l u codes;
        put =
            more (set u.latitudes i a) (set u.longitudes i b) before out i
            (p.put ∙ ap (sets before 16) (sym (before-it u.latitudes u.longitudes i a b i (omega arith))))
            (sym (get_or-set_same u.latitudes i a zero_latitude (north i l u codes))) (sym (get_or-set_same u.longitudes i b zero_longitude (east i l u codes)));
      }

-- ---- the codes of points that are all kept

module _ {elements : List ℤ} {n : ℕ} (u : UsedCodes elements n) where
  abbrev pub points_of : Points
  points_of = record { latitudes = u.latitudes; longitudes = u.longitudes }

  pub points-codes : PointsKept (quantities_in elements).latitudes (quantities_in elements).longitudes n → PointsCodes (quantities_in elements).latitudes (quantities_in elements).longitudes n points_of
  points-codes kept = record {
    all_latitudes = u.all_latitudes;
    all_longitudes = u.all_longitudes;
    each = λ i. record {
      latitudes = λ e. u.coded_latitudes i (ltb-true i n e);
      longitudes = λ e. u.coded_longitudes i (ltb-true i n e);
      no_latitudes = λ e. ((kept i).no_latitudes e, u.ended.no_latitude i (ltb-false i n e));
      no_longitudes = λ e. ((kept i).no_longitudes e, u.ended.no_longitude i (ltb-false i n e));
    };
  }

  pub codes-used : UsedKept elements n
  codes-used i h = record {
    latitudes = λ e. not-refused field.latitude (get_or (quantities_in elements).latitudes i zero_degrees) (get_or u.latitudes i zero_latitude) 7 (u.coded_latitudes i h);
    longitudes = λ e. not-refused field.longitude (get_or (quantities_in elements).longitudes i zero_degrees) (get_or u.longitudes i zero_longitude) 7 (u.coded_longitudes i h);
    no_latitudes = never refl;
    no_longitudes = never refl;
  }

  -- which the test of the elements after them decides
  pub kept_by : (b : Bool) → n ≤ 15 → Decides b (NoQuantitiesFrom elements (14 + 2 * n)) → PointsInRange elements n b
  kept_by true few d = record { kept = all-kept elements n few codes-used d; codes = u }
  kept_by false few d = λ h. d (none_kept elements n few h)
