-- The fifteen points: their elements put one point after another, and a list of them filled from the front.
use mathlib.Core.Path.{◌≡◌, refl, sym, ap, ◌∙◌}
use mathlib.Core.List.{List, ◌++◌, append_assoc, append-nil}
use Prim.Native.Nat.{ℕ, zero, suc, ◌+◌, ◌-◌, ◌*◌, ◌≤◌}
use native.Mathlib.Nat.{add-zero, add-suc}
use native.Mathlib.Numerals.{add-one}
use native.Mathlib.Omega.{arith}
use lib.ListN.{length, length-append, get_or, drop, replicate, replicate-append-replicate}
use lib.Seq.{sets, sets-eq}
use Rattle.ground.specs.declared.code.LatitudeCode.{LatitudeCode}
use Rattle.ground.specs.declared.code.LongitudeCode.{LongitudeCode}
use Rattle.layout.specs.Shapes.{zero_latitude, zero_longitude}
use Rattle.ground.proofs.ListLaws.{sets-append}
use Rattle.code_arrays.proofs.CopyLaws.{sets-after}
use Rattle.layout.specs.declared.shape.Shape.{Shape}
use Rattle.code_arrays.specs.Shapes.{single_elements, point_element, point_elements, shape_elements, Ended}

module _ (latitudes : List LatitudeCode) (longitudes : List LongitudeCode) where
  pub length-points : (n : ℕ) → length (point_elements latitudes longitudes n) ≡ 3 * n
  length-points zero = refl
  length-points (suc n) = length-append (point_elements latitudes longitudes n) _ ∙ omega (arith, length-points n)

  -- one point more
  pub more : (o out : List ℕ) (n : ℕ) {a : LatitudeCode} {b : LongitudeCode} → out ≡ sets o 16 (point_elements latitudes longitudes n) → a ≡ get_or latitudes n zero_latitude → b ≡ get_or longitudes n zero_longitude
      → sets out (16 + 3 * n) (point_element a b) ≡ sets o 16 (point_elements latitudes longitudes (n + 1))
  more o out n e p q =
      rw (add-one n, e, p, q)
      (ap (λ (k : ℕ). sets (sets o 16 (point_elements latitudes longitudes n)) (16 + k) (point_element (get_or latitudes n zero_latitude) (get_or longitudes n zero_longitude))) (sym (length-points n))
      ∙ sets-append o 16 (point_elements latitudes longitudes n) _)

  -- after the last of n points there are zeros
  module _ {n : ℕ} (e : Ended latitudes longitudes n) where
    zeros-after : (d : ℕ) → point_elements latitudes longitudes (n + d) ≡ point_elements latitudes longitudes n ++ replicate (3 * d) 0
    zeros-after zero = rw (add-zero n) (sym (append-nil _))
    zeros-after (suc d) =
        let p = e.no_latitude (n + d) (omega arith) in
        let q = e.no_longitude (n + d) (omega arith) in
        let w : 3 * d + 3 ≡ 3 * suc d = omega arith in
        rw (add-suc n d, p, q, zeros-after d)
        (append_assoc (point_elements latitudes longitudes n) (replicate (3 * d) 0) _
        ∙ ap (λ (t : List ℕ). point_elements latitudes longitudes n ++ t) (replicate-append-replicate (3 * d) 3 0 ∙ ap (λ (k : ℕ). replicate k 0) w))

    all-points : point_elements latitudes longitudes 15 ≡ point_elements latitudes longitudes n ++ replicate (45 - 3 * n) 0
    all-points =
        let m = e.most in
        let d : n + (15 - n) ≡ 15 = omega arith in
        let w : 3 * (15 - n) ≡ 45 - 3 * n = omega arith in
        ap (point_elements latitudes longitudes) (sym d) ∙ zeros-after (15 - n) ∙ ap (λ (k : ℕ). point_elements latitudes longitudes n ++ replicate k 0) w

    -- the points, and zeros after them, are the fifteen
    pub points-put : (l : List ℕ) → sets (sets l 16 (point_elements latitudes longitudes n)) (16 + 3 * n) (replicate (45 - 3 * n) 0) ≡ sets l 16 (point_elements latitudes longitudes 15)
    points-put l =
        let zeros : List ℕ = replicate (45 - 3 * n) 0 in
        ap (λ (k : ℕ). sets (sets l 16 (point_elements latitudes longitudes n)) (16 + k) zeros) (sym (length-points n))
        ∙ sets-append l 16 (point_elements latitudes longitudes n) zeros
        ∙ ap (λ (t : List ℕ). sets l 16 t) (sym all-points)

-- the elements before the points, the first n points, and zeros after them, are a record's elements
pub shape-put : (x : Shape) {n : ℕ} → Ended x.latitudes x.longitudes n → (o : List ℕ) → 61 ≤ length o
    → sets (sets (sets o 0 (single_elements x)) 16 (point_elements x.latitudes x.longitudes n)) (16 + 3 * n) (replicate (45 - 3 * n) 0) ≡ shape_elements x ++ drop 61 o
shape-put x e o h =
    points-put x.latitudes x.longitudes e (sets o 0 (single_elements x))
    ∙ ap (λ (l : List ℕ). sets l 16 (point_elements x.latitudes x.longitudes 15)) (sets-eq (single_elements x) o 0 (omega arith))
    ∙ sets-after (single_elements x) (point_elements x.latitudes x.longitudes 15) o refl refl h
