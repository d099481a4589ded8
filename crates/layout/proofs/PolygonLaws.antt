-- A polygon's rows, for any count: they are tidy, and each field of each point is found at its place.
use Prim.Native.Nat.{ℕ, zero, suc, ◌+◌, ◌*◌, ◌/◌, ◌≤◌, ◌<◌}
use mathlib.Core.Path.{◌≡◌, refl, ap, sym, subst, ◌∙◌}
use mathlib.Core.List.{List}
use native.Mathlib.Omega.{arith}
use native.Mathlib.Nat.{add-zero, zero-add}
use borrow.Author.Tests.{ne_eqb, eq-eqb}
use Rattle.layout.specs.declared.shape.Kind.TheVariants.{Polygon}
use Rattle.layout.specs.Layout.{MessageField, Row, row, south, latitude, longitude, points, shape_rows}
use Rattle.layout.specs.Rows.{All, tag, width_of, end_of, length_of}
use Rattle.layout.proofs.RowLaws.{Sorted}
use Rattle.layout.proofs.TidyLaws.{first_of, Found, Tidy}

-- ---- order and length

pub next : (i : ℕ) → 8 + 48 * i + 24 + 24 ≡ 8 + 48 * suc i
next i = omega arith

points-end : (i n : ℕ) → end_of (8 + 48 * i) (points i n) ≡ 8 + 48 * (i + n)
points-end i zero = omega arith
points-end i (suc n) = ap (λ (at : ℕ). end_of at (points (suc i) n)) (next i) ∙ points-end (suc i) n ∙ omega arith

points-sorted : (i n : ℕ) → Sorted (8 + 48 * i) (points i n)
points-sorted i zero = tt
points-sorted i (suc n) =
    (omega arith, (omega arith, (omega arith, rw (next i) (points-sorted (suc i) n))))

pub polygon-length : (n : ℕ) → length_of (shape_rows Polygon n) ≡ 1 + 6 * n
polygon-length n = ap (λ (k : ℕ). k / 8) (points-end 0 n) ∙ omega arith

-- ---- where a field is found

-- the three rows of the point j
abbrev pub point-row : ℕ → ℕ → Row
point-row zero j = row (south (suc j)) (8 + 48 * j) 1
point-row (suc zero) j = row (latitude (suc j)) (8 + 48 * j + 1) 23
point-row (suc (suc r)) j = row (longitude (suc j)) (8 + 48 * j + 24) 24

-- the rows from point i on have no field of a lower point, and none of a point after the last
outside : (f : MessageField) (i n : ℕ) → (3 * i + 22 ≤ tag f → 3 * (i + n) + 22 ≤ tag f) → (first_of (points i n) f ≡ 0) × (width_of (points i n) f ≡ 0)
outside f i zero h = (refl, refl)
outside f i (suc n) h =
    let a : tag f ≡ 3 * suc i + 19 → ⊥ = λ e. let z = h (omega arith) in absurd (omega arith) in
    let b : tag f ≡ 3 * suc i + 20 → ⊥ = λ e. let z = h (omega arith) in absurd (omega arith) in
    let c : tag f ≡ 3 * suc i + 21 → ⊥ = λ e. let z = h (omega arith) in absurd (omega arith) in
    let rest = outside f (suc i) n (λ l. let z = h (omega arith) in omega arith) in
    (rw (ne_eqb _ _ a, ne_eqb _ _ b, ne_eqb _ _ c) rest.0, rw (ne_eqb _ _ a, ne_eqb _ _ b, ne_eqb _ _ c) rest.1)

-- what the rows find for a row's field
abbrev Finds : List Row → Row → Type 0
Finds rows r = (first_of rows r.field ≡ r.first) × (width_of rows r.field ≡ r.width)

here : (r i n : ℕ) → Finds (points i (suc n)) (point-row r i)
here zero i n = (rw (eq-eqb (3 * suc i + 19) _ refl), rw (eq-eqb (3 * suc i + 19) _ refl))
here (suc zero) i n =
    let a : 3 * suc i + 20 ≡ 3 * suc i + 19 → ⊥ = λ e. absurd (omega arith) in
    (rw (ne_eqb _ _ a, eq-eqb (3 * suc i + 20) _ refl), rw (ne_eqb _ _ a, eq-eqb (3 * suc i + 20) _ refl))
here (suc (suc r)) i n =
    let a : 3 * suc i + 21 ≡ 3 * suc i + 19 → ⊥ = λ e. absurd (omega arith) in
    let b : 3 * suc i + 21 ≡ 3 * suc i + 20 → ⊥ = λ e. absurd (omega arith) in
    (rw (ne_eqb _ _ a, ne_eqb _ _ b, eq-eqb (3 * suc i + 21) _ refl), rw (ne_eqb _ _ a, ne_eqb _ _ b, eq-eqb (3 * suc i + 21) _ refl))

-- the fields of a later point
later : (r j : ℕ) → 3 * suc j + 19 ≤ tag (point-row r j).field
later zero j = omega arith
later (suc zero) j = omega arith
later (suc (suc r)) j = omega arith

inside : (r i d n : ℕ) → d < n → Finds (points i n) (point-row r (i + d))
inside r i d zero h = absurd (omega arith)
inside r i zero (suc n) h = rw (add-zero i) (here r i n)
inside r i (suc d) (suc n) h =
    let l : 3 * suc (i + suc d) + 19 ≤ tag (point-row r (i + suc d)).field = later r (i + suc d) in
    let a : tag (point-row r (i + suc d)).field ≡ 3 * suc i + 19 → ⊥ = λ e. absurd (omega arith) in
    let b : tag (point-row r (i + suc d)).field ≡ 3 * suc i + 20 → ⊥ = λ e. absurd (omega arith) in
    let c : tag (point-row r (i + suc d)).field ≡ 3 * suc i + 21 → ⊥ = λ e. absurd (omega arith) in
    let e : suc i + d ≡ i + suc d = omega arith in
    let rest : Finds (points (suc i) n) (point-row r (i + suc d)) = subst (λ (j : ℕ). Finds (points (suc i) n) (point-row r j)) e (inside r (suc i) d n (omega arith)) in
    (rw (ne_eqb _ _ a, ne_eqb _ _ b, ne_eqb _ _ c) rest.0, rw (ne_eqb _ _ a, ne_eqb _ _ b, ne_eqb _ _ c) rest.1)

-- ---- all of it, for a polygon of n points

module _ (n : ℕ) where
  pub point-found : (r j : ℕ) → j < n → Found (shape_rows Polygon n) (point-row r j)
  point-found r j h =
      let l : 3 * suc j + 19 ≤ tag (point-row r j).field = later r j in
      let a : tag (point-row r j).field ≡ 0 → ⊥ = λ e. absurd (omega arith) in
      let b : tag (point-row r j).field ≡ 1 → ⊥ = λ e. absurd (omega arith) in
      let found : Finds (points 0 n) (point-row r j) = subst (λ (k : ℕ). Finds (points 0 n) (point-row r k)) (zero-add j) (inside r 0 j n h) in
      record { first_found = rw (ne_eqb _ _ a, ne_eqb _ _ b) found.0; width-found = rw (ne_eqb _ _ a, ne_eqb _ _ b) found.1 }

  -- a field that is neither the type, nor the count, nor one of a point of the n
  pub none_found : (f : MessageField) → 2 ≤ tag f → (22 ≤ tag f → 3 * n + 22 ≤ tag f) → width_of (shape_rows Polygon n) f ≡ 0
  none_found f l h =
      let a : tag f ≡ 0 → ⊥ = λ e. absurd (omega arith) in
      let b : tag f ≡ 1 → ⊥ = λ e. absurd (omega arith) in
      rw (ne_eqb _ _ a, ne_eqb _ _ b) (outside f 0 n (λ m. let z = h (omega arith) in omega arith)).1

  points-found : (i m : ℕ) → i + m ≡ n → All (Found (shape_rows Polygon n)) (points i m)
  points-found i zero e = tt
  points-found i (suc m) e =
      (point-found 0 i (omega arith), (point-found 1 i (omega arith), (point-found 2 i (omega arith), points-found (suc i) m (omega arith))))

  pub polygon-tidy : Tidy (shape_rows Polygon n)
  polygon-tidy = record {
    sorted = (omega arith, (omega arith, points-sorted 0 n));
    whole = rw (polygon-length n) (sym (points-end 0 n ∙ omega arith));
    found = (record { first_found = refl; width-found = refl }, (record { first_found = refl; width-found = refl }, points-found 0 n (zero-add n)));
  }
