-- The message of the record that elements say, stored part after part.
use Prim.Native.Nat.{ℕ, ◌+◌, ◌*◌, ◌≤◌, ◌<◌}
use mathlib.Core.Path.{◌≡◌, refl, sym, ap, subst, ◌∙◌}
use mathlib.Core.List.{List, ◌∷◌, ◌++◌}
use native.Mathlib.Omega.{arith}
use lib.ListN.{length, drop}
use lib.Seq.{sets}
use Rattle.octets.specs.Codes.{position}
use Rattle.layout.specs.declared.shape.Kind.{Kind}
use Rattle.layout.specs.declared.shape.Kind.TheVariants.{Nothing, Point, Circle, Ellipse, Polygon, AltitudePoint, AltitudeEllipsoid, Arc}
use Rattle.layout.specs.declared.shape.Shape.{Shape}
use Rattle.layout.specs.Layout.{count, altitude, shape_rows, type_of}
use Rattle.layout.specs.Rows.{length_of, message}
use Rattle.layout.specs.Demands.{TypeKnown, CountSound, InFields}
use Rattle.layout.specs.Shapes.{rows_of, value_of}
use Rattle.code_arrays.specs.CodeNumbers.{element_at}
use Rattle.code_arrays.specs.Shapes.{array_kind, array_rows, value_in, record_in, outline_in}
use Rattle.limits.specs.Limits.{UsedWithin}
use Rattle.code_arrays.proofs.ArrayLaws.{same-element, number}
use Rattle.limits.proofs.LimitLaws.{points-within}
use Rattle.composing.specs.Composing.{positions, rest, rest_of, RestFits, ShapeStorable, stored}
use Rattle.code_arrays.proofs.ArrayRecords.{record-values}
use Rattle.composing.proofs.StoreLaws.{run-stored, fixed-message, points-message}

-- only a polygon's length depends on the count
fixed-length : (k : Kind) (n : ℕ) → (k ≡ Polygon → ⊥) → length_of (shape_rows k n) ≡ length_of (shape_rows k 0)
fixed-length Nothing n other = refl
fixed-length Point n other = refl
fixed-length Circle n other = refl
fixed-length Ellipse n other = refl
fixed-length Polygon n other = absurd (other refl)
fixed-length AltitudePoint n other = refl
fixed-length AltitudeEllipsoid n other = refl
fixed-length Arc n other = refl

module _ (elements : List ℕ) where
  -- what follows the position is no point's
  same_rest : (k : Kind) → rest k (outline_in elements) ≡ rest k (record_in elements)
  same_rest Nothing = refl
  same_rest Point = refl
  same_rest Circle = refl
  same_rest Ellipse = refl
  same_rest Polygon = refl
  same_rest AltitudePoint = refl
  same_rest AltitudeEllipsoid = refl
  same_rest Arc = refl

  module _ (fields : InFields (array_rows elements) (value_in elements)) where
    -- the count, which has four bits
    pub count_small : (element_at elements 1 ≡ value_in elements count) × (value_in elements count < 16)
    count_small = (same-element elements 1 (omega arith), number elements fields count)

    -- the length of the message
    pub message_long : {k : Kind} {n : ℕ} → k ≡ array_kind elements → n ≡ length_of (shape_rows k (element_at elements 1)) → n ≡ length_of (array_rows elements)
    message_long e f = f ∙ (λ i. length_of (shape_rows (e i) (count_small.0 i)))

    -- ---- in a room

    module _ (room : ℕ) (fits : length_of (array_rows elements) ≤ room) where
      pub rest-fits : {y : Shape} → y ≡ outline_in elements → (array_kind elements ≡ Polygon → ⊥) → RestFits y room
      rest-fits e other =
          subst (λ (y : Shape). RestFits y room) (sym e) (record {
            fits = omega (arith, fits, fixed-length (array_kind elements) (value_in elements count) other);
            level = number elements fields altitude;
          })

      pub storable : TypeKnown (array_rows elements) → CountSound (array_rows elements) (value_in elements) → ShapeStorable (record_in elements) room
      storable listed counted =
          let same = record-values elements listed fields in
          record { listed = listed; counted = record { least = counted.least; most = counted.most }; fields = subst (InFields (array_rows elements)) (λ i f. sym (same f) i) fields; fits = fits }

    pub used-within : array_kind elements ≡ Polygon → UsedWithin elements (value_in elements count)
    used-within e i l =
        let p = points-within Polygon (value_in elements count) (value_in elements) (subst (λ (k : Kind). InFields (shape_rows k (value_in elements count)) (value_in elements)) e fields) i l in
        record { sign = p.sign; size = p.size; turn = p.turn }

    pub message-stored : TypeKnown (array_rows elements) → (o : List ℕ) → stored (record_in elements) o ≡ message (array_rows elements) (value_in elements) ++ drop (length_of (array_rows elements)) o
    message-stored listed o = let same = record-values elements listed fields in λ i. message (array_rows elements) (λ f. same f i) ++ drop (length_of (array_rows elements)) o

  -- ---- the parts are the message

  module _ (o : List ℕ) (s : ShapeStorable (record_in elements) (length o)) (first : ℕ) (f : first ≡ 16 * type_of (array_kind elements)) where
    pub parts-stored : {y : Shape} → y ≡ outline_in elements → (array_kind elements ≡ Polygon → ⊥) → sets o 0 (first ∷ (position y.latitude y.longitude ++ rest_of y)) ≡ stored (record_in elements) o
    parts-stored e other =
        ap (λ (y : Shape). sets o 0 (first ∷ (position y.latitude y.longitude ++ rest_of y))) e
        ∙ (λ i. sets o 0 (f i ∷ (position (record_in elements).latitude (record_in elements).longitude ++ same_rest (array_kind elements) i)))
        ∙ run-stored (rows_of (record_in elements)) (value_of (record_in elements)) o _ (fixed-message (record_in elements) (length o) s other) s.fits

    pub points-stored : array_kind elements ≡ Polygon
        → sets o 0 ((first + element_at elements 1) ∷ positions (record_in elements).latitudes (record_in elements).longitudes (value_in elements count)) ≡ stored (record_in elements) o
    points-stored e =
        (λ i. sets o 0 ((f i + same-element elements 1 (omega arith) i) ∷ positions (record_in elements).latitudes (record_in elements).longitudes (value_in elements count)))
        ∙ run-stored (rows_of (record_in elements)) (value_of (record_in elements)) o _ (points-message (record_in elements) (length o) s e) s.fits
