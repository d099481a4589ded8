-- The first 61 elements, the kind of their type, and what their numbers are where each is within its field.
use Prim.Native.Nat.{ℕ, suc, ◌+◌, ◌*◌, ◌^◌, ◌≤◌, ◌<◌}
use mathlib.Core.Path.{◌≡◌, refl, sym, ap, ◌∙◌}
use mathlib.Core.Bool.{Bool, true, false, cond}
use mathlib.Core.List.{List}
use native.Mathlib.Omega.{arith}
use lib.Dec.{ltb}
use lib.ListN.{take, length-take, get_or-eq_default}
use lib.Seq.{get_or-take}
use borrow.Author.Tests.{ltb-true}
use Rattle.octets.specs.Codes.{complement, from_complement}
use Rattle.octets.proofs.ComplementLaws.{complement-back}
use Rattle.layout.specs.Layout.{MessageField, count, south, latitude, longitude}
use Rattle.layout.specs.Demands.{InFields}
use Rattle.layout.specs.Shapes.{kind_of}
use Rattle.layout.proofs.TypeLaws.{no_kind}
use Rattle.layout.proofs.WidthLaws.{shape_widest, code_of}
use Rattle.code_arrays.specs.CodeNumbers.{element_at, capped, from_bits}
use Rattle.code_arrays.specs.Shapes.{value_in, array_kind, array_rows}

-- a number past the table is of no kind, also where it is cut
kind-capped : (n : ℕ) → kind_of (capped 255 n) ≡ kind_of n
kind-capped n = by (ltb 255 n) refl
  where
    past : (m : ℕ) → 254 < m → kind_of 255 ≡ kind_of m
    past m h =
        sym (no_kind m (λ e. absurd (omega arith)) (λ e. absurd (omega arith)) (λ e. absurd (omega arith)) (λ e. absurd (omega arith)) (λ e. absurd (omega arith)) (λ e. absurd (omega arith)) (λ e. absurd (omega arith)))

    by : (b : Bool) → ltb 255 n ≡ b → kind_of (cond b 255 n) ≡ kind_of n
    by true e = past n (omega (arith, ltb-true 255 n e))
    by false e = refl

module _ (elements : List ℕ) where
  pub same-element : (i : ℕ) → i < 61 → element_at elements i ≡ element_at (take 61 elements) i
  same-element i h = sym (get_or-take 61 elements i 0 h)

  pub no-element : (i : ℕ) → 61 ≤ i → 0 ≡ element_at (take 61 elements) i
  no-element i h = sym (get_or-eq_default (take 61 elements) 0 {n = i} (rw (length-take 61 elements) (omega arith)))

  -- ---- a point's three numbers in its elements

  pub south-element : (i : ℕ) → i < 15 → value_in elements (south (suc i)) ≡ element_at elements (16 + 3 * i)
  south-element i h = sym (same-element (16 + 3 * i) (omega arith))

  pub latitude-element : (i : ℕ) → i < 15 → value_in elements (latitude (suc i)) ≡ element_at elements (16 + 3 * i + 1)
  latitude-element i h = let e : 17 + 3 * i ≡ 16 + 3 * i + 1 = omega arith in sym (same-element (17 + 3 * i) (omega arith)) ∙ ap (element_at elements) e

  pub longitude-element : (i : ℕ) → i < 15 → value_in elements (longitude (suc i)) ≡ complement (from_bits (element_at elements (16 + 3 * i + 2)))
  longitude-element i h =
      let e : 18 + 3 * i ≡ 16 + 3 * i + 2 = omega arith in
      ap (λ (n : ℕ). complement (from_bits n)) (sym (same-element (18 + 3 * i) (omega arith)) ∙ ap (element_at elements) e)

  pub same_kind : kind_of (capped 255 (element_at elements 0)) ≡ array_kind elements
  same_kind = kind-capped (element_at elements 0) ∙ ap kind_of (same-element 0 (omega arith))

  module _ (h : InFields (array_rows elements) (value_in elements)) where
    pub number : (f : MessageField) → value_in elements f < 2 ^ shape_widest f
    number = code_of (array_kind elements) (value_in elements count) (value_in elements) h

    -- a longitude's number of 32 bits is the one of 24
    pub turn : (i j : ℕ) → value_in elements (longitude j) ≡ complement (from_bits (element_at elements i)) → from_bits (element_at elements i) ≡ from_complement (value_in elements (longitude j))
    turn i j e = sym (complement-back (from_bits (element_at elements i)) (rw e at (number (longitude j)))) ∙ ap from_complement (sym e)
