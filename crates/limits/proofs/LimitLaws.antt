-- Numbers are in their fields just where those of single fields are at most the largest, and the points' within theirs.
--
use Prim.Native.Nat.{ℕ, zero, suc, ◌+◌, ◌-◌, ◌*◌, ◌/◌, ◌%◌, ◌^◌, ◌≤◌, ◌<◌}
use mathlib.Core.Path.{◌≡◌, refl, sym, ap, ◌∙◌}
use mathlib.Core.Bool.{Bool, true, false}
use mathlib.Core.List.{List, [], ◌∷◌, map}
use native.Mathlib.Omega.{arith}
use native.Mathlib.Nat.{add-zero}
use lib.Dec.{ltb}
use lib.IntN.{pos, negsuc}
use lib.ListN.{length, get_or, take}
use lib.Pow.{pow_pos, le_ones, lt_of_le_ones}
use borrow.Author.Tests.{ltb-true, ltb-false}
use Rattle.octets.specs.Codes.{complement}
use Rattle.layout.specs.declared.shape.Kind.{Kind}
use Rattle.layout.specs.declared.shape.Kind.TheVariants.{Nothing, Point, Circle, Ellipse, Polygon, AltitudePoint, AltitudeEllipsoid, Arc}
use Rattle.layout.specs.Layout.{MessageField, shape_rows}
use Rattle.layout.specs.Layout as layout
use Rattle.layout.specs.Rows.{tag, width_of}
use Rattle.layout.specs.Demands.{InFields}
use Rattle.layout.proofs.PolygonLaws.{point-row}
use Rattle.layout.proofs.KindLaws.{points_of, type-width, count-width, point-width, no-point-width, fixed-width}
use Rattle.layout.proofs.MessageLaws.{Position}
use Rattle.code_arrays.specs.CodeNumbers.{element_at, from_bits}
use Rattle.code_arrays.specs.Shapes.{value_in, array_kind}
use Rattle.limits.specs.Limits.{ElementsInFields, single_fields, numbers_in, largest_of, Within, NoCodesFrom, PointsWithin}
use Rattle.code_arrays.proofs.ArrayLaws.{same-element, no-element, south-element, latitude-element, longitude-element}

-- a count in its field: at most 15, and zero where there are no points
most : (k : Kind) (m : ℕ) → m < 2 ^ width_of (shape_rows k 0) layout.count → m ≤ 15
most Nothing m h = omega arith
most Point m h = omega arith
most Circle m h = omega arith
most Ellipse m h = omega arith
most Polygon m h = omega arith
most AltitudePoint m h = omega arith
most AltitudeEllipsoid m h = omega arith
most Arc m h = omega arith

used : (k : Kind) (m : ℕ) → m < 2 ^ width_of (shape_rows k 0) layout.count → points_of k m ≡ m
used Nothing m h = omega arith
used Point m h = omega arith
used Circle m h = omega arith
used Ellipse m h = omega arith
used Polygon m h = refl
used AltitudePoint m h = omega arith
used AltitudeEllipsoid m h = omega arith
used Arc m h = omega arith

-- a point after the last has no bits
no_bits : (k : Kind) (n r i : ℕ) → points_of k n ≤ i → width_of (shape_rows k n) (point-row r i).field ≡ 0
no_bits k n zero i h = no-point-width k n (layout.south (suc i)) (omega arith) (omega arith)
no_bits k n (suc zero) i h = no-point-width k n (layout.latitude (suc i)) (omega arith) (omega arith)
no_bits k n (suc (suc r)) i h = no-point-width k n (layout.longitude (suc i)) (omega arith) (omega arith)

-- what holds of each of these fields holds at each place of the arrays
abbrev Each : (MessageField → Type 0) → List MessageField → Type 0
Each P [] = Unit {0}
Each P (f ∷ fs) = P f × Each P fs

at_each : (v w : MessageField → ℕ) (fs : List MessageField) → Each (λ f. v f < 2 ^ w f) fs → (i : ℕ) → i < length fs → get_or (map v fs) i 0 ≤ get_or (map (λ f. 2 ^ w f - 1) fs) i 0
at_each v w [] a i h = absurd (omega arith)
at_each v w (f ∷ fs) a zero h = le_ones (w f) a.0
at_each v w (f ∷ fs) a (suc i) h = at_each v w fs a.1 i (omega arith)

-- the fields of velocities
abbrev velocity_fields : List MessageField
velocity_fields = layout.bearing ∷ layout.horizontal_speed ∷ layout.down ∷ layout.vertical_speed ∷ layout.speed_uncertainty ∷ layout.vertical_uncertainty ∷ []

-- ---- any numbers

module _ (k : Kind) (n : ℕ) (value : MessageField → ℕ) where
  module _ (h : InFields (shape_rows k n) value) where
    counted : value layout.count < 2 ^ width_of (shape_rows k 0) layout.count
    counted = rw (count-width k n) at (h.each layout.count)

    fixed : (f : MessageField) → 2 ≤ tag f → tag f < 22 → value f < 2 ^ width_of (shape_rows k 0) f
    fixed f a b = rw (fixed-width k n f a b) at (h.each f)

    pub singles-within : Within (map value single_fields) (largest_of k)
    singles-within =
        at_each value (width_of (shape_rows k 0)) single_fields (
          rw (type-width k n) at (h.each layout.type_number),
          (
            counted,
            (
              fixed (layout.south 0) (omega arith) (omega arith),
              (
                fixed (layout.latitude 0) (omega arith) (omega arith),
                (
                  fixed (layout.longitude 0) (omega arith) (omega arith),
                  (
                    fixed layout.depth (omega arith) (omega arith),
                    (
                      fixed layout.altitude (omega arith) (omega arith),
                      (
                        fixed layout.uncertainty (omega arith) (omega arith),
                        (
                          fixed layout.semi_major (omega arith) (omega arith),
                          (
                            fixed layout.semi_minor (omega arith) (omega arith),
                            (
                              fixed layout.orientation (omega arith) (omega arith),
                              (
                                fixed layout.altitude_uncertainty (omega arith) (omega arith),
                                (
                                  fixed layout.inner_radius (omega arith) (omega arith),
                                  (
                                    fixed layout.offset (omega arith) (omega arith),
                                    (
                                      fixed layout.included (omega arith) (omega arith),
                                      (fixed layout.confidence (omega arith) (omega arith), tt),
                                    ),
                                  ),
                                ),
                              ),
                            ),
                          ),
                        ),
                      ),
                    ),
                  ),
                ),
              ),
            ),
          ),
        )

    -- the points that the rows have
    point-number : (r i : ℕ) → i < points_of k n → value (point-row r i).field < 2 ^ (point-row r i).width
    point-number r i l = rw (point-width k n r i l) at (h.each (point-row r i).field)

    pub points-within : (i : ℕ) → i < points_of k n → Position value (suc i)
    points-within i l = record { sign = point-number 0 i l; size = point-number 1 i l; turn = point-number 2 i l }

    -- and the others
    no_number : (r i : ℕ) → points_of k n ≤ i → value (point-row r i).field ≡ 0
    no_number r i l = omega (arith, rw (no_bits k n r i l) at (h.each (point-row r i).field))

  -- ---- and back

  module _ (h : Within (map value single_fields) (largest_of k)) where
    count-back : value layout.count < 2 ^ width_of (shape_rows k 0) layout.count
    count-back = lt_of_le_ones (width_of (shape_rows k 0) layout.count) (h 1 (omega arith))

    pub count-narrow : value layout.count ≤ 15
    count-narrow = most k (value layout.count) count-back

    fixed_back : (f : MessageField) → 2 ≤ tag f → tag f < 22 → value f ≤ 2 ^ width_of (shape_rows k 0) f - 1 → value f < 2 ^ width_of (shape_rows k n) f
    fixed_back f a b l = rw (fixed-width k n f a b) (lt_of_le_ones (width_of (shape_rows k 0) f) l)

    module _
        (points : (r i : ℕ) → i < points_of k n → value (point-row r i).field < 2 ^ (point-row r i).width)
        (none : (r i : ℕ) → points_of k n ≤ i → value (point-row r i).field ≡ 0)
        (still : Each (λ f. value f ≡ 0) velocity_fields) where
      zero-back : (f : MessageField) → value f ≡ 0 → value f < 2 ^ width_of (shape_rows k n) f
      zero-back f e = rw e (pow_pos _)

      point-back : (r i : ℕ) → value (point-row r i).field < 2 ^ width_of (shape_rows k n) (point-row r i).field
      point-back r i = by (ltb i (points_of k n)) refl
        where
          by : (t : Bool) → ltb i (points_of k n) ≡ t → value (point-row r i).field < 2 ^ width_of (shape_rows k n) (point-row r i).field
          by true e = rw (point-width k n r i (ltb-true _ _ e)) (points r i (ltb-true _ _ e))
          by false e = zero-back (point-row r i).field (none r i (ltb-false _ _ e))

      each : (f : MessageField) → value f < 2 ^ width_of (shape_rows k n) f
      each layout.type_number = rw (type-width k n) (lt_of_le_ones (width_of (shape_rows k 0) layout.type_number) (h 0 (omega arith)))
      each layout.count = rw (count-width k n) count-back
      each (layout.south zero) = fixed_back (layout.south 0) (omega arith) (omega arith) (h 2 (omega arith))
      each (layout.latitude zero) = fixed_back (layout.latitude 0) (omega arith) (omega arith) (h 3 (omega arith))
      each (layout.longitude zero) = fixed_back (layout.longitude 0) (omega arith) (omega arith) (h 4 (omega arith))
      each layout.depth = fixed_back layout.depth (omega arith) (omega arith) (h 5 (omega arith))
      each layout.altitude = fixed_back layout.altitude (omega arith) (omega arith) (h 6 (omega arith))
      each layout.uncertainty = fixed_back layout.uncertainty (omega arith) (omega arith) (h 7 (omega arith))
      each layout.semi_major = fixed_back layout.semi_major (omega arith) (omega arith) (h 8 (omega arith))
      each layout.semi_minor = fixed_back layout.semi_minor (omega arith) (omega arith) (h 9 (omega arith))
      each layout.orientation = fixed_back layout.orientation (omega arith) (omega arith) (h 10 (omega arith))
      each layout.altitude_uncertainty = fixed_back layout.altitude_uncertainty (omega arith) (omega arith) (h 11 (omega arith))
      each layout.inner_radius = fixed_back layout.inner_radius (omega arith) (omega arith) (h 12 (omega arith))
      each layout.offset = fixed_back layout.offset (omega arith) (omega arith) (h 13 (omega arith))
      each layout.included = fixed_back layout.included (omega arith) (omega arith) (h 14 (omega arith))
      each layout.confidence = fixed_back layout.confidence (omega arith) (omega arith) (h 15 (omega arith))
      each (layout.south (suc i)) = point-back 0 i
      each (layout.latitude (suc i)) = point-back 1 i
      each (layout.longitude (suc i)) = point-back 2 i
      each layout.bearing = zero-back layout.bearing still.0
      each layout.horizontal_speed = zero-back layout.horizontal_speed still.1.0
      each layout.down = zero-back layout.down still.1.1.0
      each layout.vertical_speed = zero-back layout.vertical_speed still.1.1.1.0
      each layout.speed_uncertainty = zero-back layout.speed_uncertainty still.1.1.1.1.0
      each layout.vertical_uncertainty = zero-back layout.vertical_uncertainty still.1.1.1.1.1.0

      pub in-fields : InFields (shape_rows k n) value
      in-fields = record { each = each }

-- ---- a longitude's element

positive : (n : ℕ) → complement (pos n) ≡ 0 → n ≡ 0
positive n = by (ltb n 8388608) refl
  where
    by : (t : Bool) → ltb n 8388608 ≡ t → complement (pos n) ≡ 0 → n ≡ 0
    by true e h = rw e at h
    by false e h = absurd (omega (arith, rw e at h))

negative : (n : ℕ) → complement (negsuc n) ≡ 0 → ⊥
negative n = by (ltb n 8388608) refl
  where
    by : (t : Bool) → ltb n 8388608 ≡ t → complement (negsuc n) ≡ 0 → ⊥
    by true e h = absurd (omega (arith, ltb-true n 8388608 e, rw e at h))
    by false e h = absurd (omega (arith, rw e at h))

-- the one element whose number of 24 bits is zero
none-turned : (n : ℕ) → complement (from_bits n) ≡ 0 → n ≡ 0
none-turned n = by (ltb n 2147483648) refl
  where
    by : (t : Bool) → ltb n 2147483648 ≡ t → complement (from_bits n) ≡ 0 → n ≡ 0
    by true e h = positive n (rw e at h)
    by false e h = absurd (negative (4294967295 - n) (rw e at h))

-- ---- the numbers in elements

module _ (elements : List ℕ) where
  -- a point's elements are zero where its numbers are
  element-none : (r i : ℕ) → r < 3 → i < 15 → value_in elements (point-row r i).field ≡ 0 → element_at elements (16 + 3 * i + r) ≡ 0
  element-none zero i h l e = rw (add-zero (16 + 3 * i)) (sym (south-element elements i l) ∙ e)
  element-none (suc zero) i h l e = sym (latitude-element elements i l) ∙ e
  element-none (suc (suc zero)) i h l e = none-turned _ (sym (longitude-element elements i l) ∙ e)
  element-none (suc (suc (suc r))) i h l e = absurd (omega arith)

  module _ (h : ElementsInFields elements) where
    points-used : points_of (array_kind elements) (value_in elements layout.count) ≡ value_in elements layout.count
    points-used = used (array_kind elements) (value_in elements layout.count) (counted (array_kind elements) (value_in elements layout.count) (value_in elements) h)

    none_from : NoCodesFrom elements (16 + 3 * value_in elements layout.count)
    none_from at l m =
        let e : 16 + 3 * ((at - 16) / 3) + (at - 16) % 3 ≡ at = omega arith in
        rw e at (element-none ((at - 16) % 3) ((at - 16) / 3) (omega arith) (omega arith) (no_number (array_kind elements) (value_in elements layout.count) (value_in elements) h ((at - 16) % 3) ((at - 16) / 3) (omega (arith, points-used))))

    pub elements-points : PointsWithin elements (value_in elements layout.count)
    elements-points = record {
      used = λ i l. let p = points-within (array_kind elements) (value_in elements layout.count) (value_in elements) h i (omega (arith, points-used)) in record { sign = p.sign; size = p.size; turn = p.turn };
      none = none_from;
    }

  module _ (h : Within (numbers_in elements) (largest_of (array_kind elements))) (p : PointsWithin elements (value_in elements layout.count)) where
    none-at : (i : ℕ) → 16 + 3 * value_in elements layout.count ≤ i → element_at (take 61 elements) i ≡ 0
    none-at i l = by (ltb i 61) refl
      where
        by : (t : Bool) → ltb i 61 ≡ t → element_at (take 61 elements) i ≡ 0
        by true e = sym (same-element elements i (ltb-true _ _ e)) ∙ p.none i l (ltb-true _ _ e)
        by false e = sym (no-element elements i (ltb-false _ _ e))

    used-back : points_of (array_kind elements) (value_in elements layout.count) ≡ value_in elements layout.count
    used-back = used (array_kind elements) (value_in elements layout.count) (count-back (array_kind elements) (value_in elements layout.count) (value_in elements) h)

    point_at : (r i : ℕ) → i < value_in elements layout.count → value_in elements (point-row r i).field < 2 ^ (point-row r i).width
    point_at zero i l = (p.used i l).sign
    point_at (suc zero) i l = (p.used i l).size
    point_at (suc (suc r)) i l = (p.used i l).turn

    no-point-at : (r i : ℕ) → value_in elements layout.count ≤ i → value_in elements (point-row r i).field ≡ 0
    no-point-at zero i l = none-at (16 + 3 * i) (omega arith)
    no-point-at (suc zero) i l = none-at (17 + 3 * i) (omega arith)
    no-point-at (suc (suc r)) i l = ap (λ (n : ℕ). complement (from_bits n)) (none-at (18 + 3 * i) (omega arith))

    pub elements-in-fields : ElementsInFields elements
    elements-in-fields =
        in-fields (array_kind elements) (value_in elements layout.count) (value_in elements) h (λ r i l. point_at r i (omega (arith, used-back))) (λ r i l. no-point-at r i (omega (arith, used-back)))
        (refl, (refl, (refl, (refl, (refl, (refl, tt))))))
