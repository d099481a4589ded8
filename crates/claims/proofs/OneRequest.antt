-- Elements say one request: each of its parts is made again from their numbers.
use Rattle.std.specs.Prelude.{Option, Some, None}
use Prim.Native.Nat.{ℕ}
use mathlib.Core.Path.{◌≡◌, refl, sym, ap, subst, ◌∙◌}
use mathlib.Core.List.{List}
use native.Mathlib.Omega.{arith}
use lib.IntN.{ℤ, pos, negsuc}
use Rattle.requests.specs.declared.Request.{Request}
use Rattle.requests.specs.declared.Horizontal.{Horizontal}
use Rattle.requests.specs.declared.Horizontal.TheVariants as horizontal
use Rattle.code_arrays.specs.QuantityNumbers.{quantity_in, missing, Signed32}
use Rattle.library.specs.Requests.{ElementSaysAltitude, ElementsSayHorizontal, ElementSaysUncertainty, ElementSaysConfidence, ElementsSay}
use Rattle.ground.specs.declared.quantity.Millimetres.{Millimetres}
use Rattle.ground.specs.declared.quantity.PerCent.{PerCent}
use Rattle.ground.specs.declared.quantity.SignedMillimetres.{SignedMillimetres}

-- by the number of an element; no number is below 0, and the mark of a missing one is
abbrev pub by_number : {A : Type 0} → (ℕ → A) → A → ℤ → A
by_number given none (pos n) = given n
by_number given none (negsuc n) = none

-- ---- the parts

marked-outside : (z x : ℤ) → z ≡ x → Signed32 x → z ≡ missing → ⊥
marked-outside z x e h m = let g = subst Signed32 (sym e ∙ m) h in omega arith

altitude-one : (z : ℤ) (a b : Option SignedMillimetres) → ElementSaysAltitude z a → ElementSaysAltitude z b → a ≡ b
altitude-one z (Some a) (Some b) s t = let e = sym s.number ∙ t.number in λ i. Some (record { 0 = e i })
altitude-one z (Some a) None s t = absurd (marked-outside z a.0 s.number s.fits t)
altitude-one z None (Some b) s t = absurd (marked-outside z b.0 t.number t.fits s)
altitude-one z None None s t = refl

abbrev area_in : ℤ → ℤ → ℤ → Horizontal
area_in x y z =
    by_number
    (λ R. by_number (λ S. horizontal.Ellipse (record { 0 = R }) (record { 0 = S }) (record { 0 = by_number (λ n. n) 0 z })) (horizontal.Circle (record { 0 = R })) y)
    horizontal.NotAsked x

area-back : (x y z : ℤ) (a : Horizontal) → ElementsSayHorizontal x y z a → area_in x y z ≡ a
area-back x y z (horizontal.Circle R) s = λ i. area_in (s.0.number i) (s.1 i) z
area-back x y z (horizontal.Ellipse R S a) s = λ i. area_in (s.0.number i) (s.1.number i) (s.2.number i)
area-back x y z horizontal.NotAsked s = λ i. area_in (s.0 i) y z

abbrev height_in : ℤ → Option Millimetres
height_in = by_number (λ R. Some (record { 0 = R })) None

height-back : (z : ℤ) (a : Option Millimetres) → ElementSaysUncertainty z a → height_in z ≡ a
height-back z (Some R) s = ap height_in s.number
height-back z None s = ap height_in s

abbrev pub confidence_in : ℤ → Option PerCent
confidence_in = by_number (λ n. Some (record { 0 = n })) None

confidence-back : (z : ℤ) (a : Option PerCent) → ElementSaysConfidence z a → confidence_in z ≡ a
confidence-back z (Some n) s = ap confidence_in s.number
confidence-back z None s = ap confidence_in s

-- ---- the request

pub request-one : (elements : List ℤ) (q r : Request) → ElementsSay elements q → ElementsSay elements r → q ≡ r
request-one elements q r s t =
    let latitudes = s.latitudes ∙ sym t.latitudes in
    let longitudes = s.longitudes ∙ sym t.longitudes in
    let altitudes = altitude-one (quantity_in elements 2) q.altitude r.altitude s.altitudes t.altitudes in
    let areas = sym (area-back _ _ _ q.horizontal s.areas) ∙ area-back _ _ _ r.horizontal t.areas in
    let heights = sym (height-back _ q.altitude_uncertainty s.heights) ∙ height-back _ r.altitude_uncertainty t.heights in
    let confidences = sym (confidence-back _ q.confidence s.confidences) ∙ confidence-back _ r.confidence t.confidences in
    λ i. record {
      latitude = record { 0 = latitudes i };
      longitude = record { 0 = longitudes i };
      altitude = altitudes i;
      horizontal = areas i;
      altitude_uncertainty = heights i;
      confidence = confidences i;
    }
