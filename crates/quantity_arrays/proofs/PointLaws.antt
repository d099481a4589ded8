-- The points, stored pair after pair, and zeros after the last.
use mathlib.Core.Path.{◌≡◌, refl, sym, ap, ◌∙◌}
use mathlib.Core.List.{List, [], ◌∷◌, ◌++◌, append_assoc, append-nil}
use Prim.Native.Nat.{ℕ, zero, suc, ◌+◌, ◌-◌, ◌*◌, ◌≤◌, ◌<◌}
use native.Mathlib.Nat.{add-zero, add-suc}
use native.Mathlib.Omega.{arith}
use native.Mathlib.Numerals.{add-one}
use lib.IntN.{ℤ, pos}
use lib.ListN.{length, length-append, set, get_or, drop, replicate, replicate-append-replicate}
use lib.Seq.{sets, sets-eq}
use Rattle.ground.specs.declared.quantity.Nanodegrees.{Nanodegrees}
use Rattle.quantities.specs.declared.shape.ShapeQuantities.{ShapeQuantities}
use Rattle.quantities.specs.Shapes.{zero_degrees}
use Rattle.code_arrays.proofs.CopyLaws.{sets-after}
use Rattle.ground.proofs.ListLaws.{sets-append}
use Rattle.quantity_arrays.specs.Shapes.{single_quantity_elements, point_quantity_elements, quantity_elements}

module _ (latitudes longitudes : List Nanodegrees) where
  length-points : (n : ℕ) → length (point_quantity_elements latitudes longitudes n) ≡ 2 * n
  length-points zero = refl
  length-points (suc n) = length-append (point_quantity_elements latitudes longitudes n) _ ∙ omega (arith, length-points n)

  -- only the first n are put
  pub same_points : (others others' : List Nanodegrees) (n : ℕ) → ((i : ℕ) → i < n → get_or latitudes i zero_degrees ≡ get_or others i zero_degrees) → ((i : ℕ) → i < n → get_or longitudes i zero_degrees ≡ get_or others' i zero_degrees) → point_quantity_elements latitudes longitudes n ≡ point_quantity_elements others others' n
  same_points others others' zero p q = refl
  same_points others others' (suc n) p q =
      let e = same_points others others' n (λ i h. p i (omega arith)) (λ i h. q i (omega arith)) in
      let a = p n (omega arith) in
      let b = q n (omega arith) in
      rw (e, a, b)

  -- one point more
  pub point-more : (o : List ℤ) (n : ℕ) (x y : ℤ) → x ≡ (get_or latitudes n zero_degrees).0 → y ≡ (get_or longitudes n zero_degrees).0
      → set (set (sets o 14 (point_quantity_elements latitudes longitudes n)) (14 + 2 * n) x) (15 + 2 * n) y ≡ sets o 14 (point_quantity_elements latitudes longitudes (n + 1))
  point-more o n x y p q =
      let k : 15 + 2 * n ≡ suc (14 + 2 * n) = omega arith in
      rw (p, q, add-one n, k, ← length-points n)
      (sets-append o 14 (point_quantity_elements latitudes longitudes n) ((get_or latitudes n zero_degrees).0 ∷ (get_or longitudes n zero_degrees).0 ∷ []))

  -- after the last of n points there are zeros
  module _ (n : ℕ) (no_latitude : (i : ℕ) → n ≤ i → get_or latitudes i zero_degrees ≡ zero_degrees) (no_longitude : (i : ℕ) → n ≤ i → get_or longitudes i zero_degrees ≡ zero_degrees) where
    zeros-after : (d : ℕ) → point_quantity_elements latitudes longitudes (n + d) ≡ point_quantity_elements latitudes longitudes n ++ replicate (2 * d) (pos 0)
    zeros-after zero = rw (add-zero n) (sym (append-nil _))
    zeros-after (suc d) =
        let p = no_latitude (n + d) (omega arith) in
        let q = no_longitude (n + d) (omega arith) in
        let w : 2 * d + 2 ≡ 2 * suc d = omega arith in
        rw (add-suc n d, p, q, zeros-after d)
        (append_assoc (point_quantity_elements latitudes longitudes n) (replicate (2 * d) (pos 0)) _
        ∙ ap (λ (t : List ℤ). point_quantity_elements latitudes longitudes n ++ t) (replicate-append-replicate (2 * d) 2 (pos 0) ∙ ap (λ (k : ℕ). replicate k (pos 0)) w))

    all-points : n ≤ 15 → point_quantity_elements latitudes longitudes 15 ≡ point_quantity_elements latitudes longitudes n ++ replicate (30 - 2 * n) (pos 0)
    all-points m =
        let d : n + (15 - n) ≡ 15 = omega arith in
        let w : 2 * (15 - n) ≡ 30 - 2 * n = omega arith in
        ap (point_quantity_elements latitudes longitudes) (sym d) ∙ zeros-after (15 - n) ∙ ap (λ (k : ℕ). point_quantity_elements latitudes longitudes n ++ replicate k (pos 0)) w

    -- the points, and zeros after them, are the fifteen
    points-put : n ≤ 15 → (l : List ℤ) → sets (sets l 14 (point_quantity_elements latitudes longitudes n)) (14 + 2 * n) (replicate (30 - 2 * n) (pos 0)) ≡ sets l 14 (point_quantity_elements latitudes longitudes 15)
    points-put m l =
        let zeros : List ℤ = replicate (30 - 2 * n) (pos 0) in
        ap (λ (k : ℕ). sets (sets l 14 (point_quantity_elements latitudes longitudes n)) (14 + k) zeros) (sym (length-points n))
        ∙ sets-append l 14 (point_quantity_elements latitudes longitudes n) zeros
        ∙ ap (λ (t : List ℤ). sets l 14 t) (sym (all-points m))

-- the elements before the points, the first n points, and zeros after them, are the quantities' elements
pub quantities-put : (q : ShapeQuantities) (n : ℕ) → ((i : ℕ) → n ≤ i → get_or q.latitudes i zero_degrees ≡ zero_degrees) → ((i : ℕ) → n ≤ i → get_or q.longitudes i zero_degrees ≡ zero_degrees) → n ≤ 15 → (o : List ℤ) → 44 ≤ length o
    → sets (sets (sets o 0 (single_quantity_elements q)) 14 (point_quantity_elements q.latitudes q.longitudes n)) (14 + 2 * n) (replicate (30 - 2 * n) (pos 0)) ≡ quantity_elements q ++ drop 44 o
quantities-put q n no_latitude no_longitude m o h =
    points-put q.latitudes q.longitudes n no_latitude no_longitude m (sets o 0 (single_quantity_elements q))
    ∙ ap (λ (l : List ℤ). sets l 14 (point_quantity_elements q.latitudes q.longitudes 15)) (sets-eq (single_quantity_elements q) o 0 (omega arith))
    ∙ sets-after (single_quantity_elements q) (point_quantity_elements q.latitudes q.longitudes 15) o refl refl h
