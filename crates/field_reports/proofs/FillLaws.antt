-- An array of fifteen zeros that is filled from the front, whatever is told of its elements.
use Prim.Native.Nat.{ℕ, ◌+◌, ◌≤◌, ◌<◌}
use mathlib.Core.Path.{◌≡◌, refl, sym, subst, ◌∙◌}
use mathlib.Core.Bool.{Bool, true, false}
use mathlib.Core.List.{List}
use native.Mathlib.Omega.{arith}
use lib.Dec.{eqb, ltb}
use lib.ListN.{get_or, set, replicate, length-set, get_or-replicate, get_or-eq_default}
use lib.Seq.{get_or-set_same, get_or-set_other}
use borrow.Author.Tests.{eqb-true, eqb-false, ltb-true, ltb-false}
use Rattle.ground.specs.declared.quantity.Nanodegrees.{Nanodegrees}
use Rattle.quantities.specs.Shapes.{zero_degrees}
use Rattle.field_reports.specs.Points.{Filled}

module _ (told : ℕ → Nanodegrees → Type 0) where
  zeros : (i : ℕ) (b : Bool) → ltb i 15 ≡ b → get_or (replicate 15 zero_degrees) i zero_degrees ≡ zero_degrees
  zeros i true e = get_or-replicate 15 i zero_degrees zero_degrees (ltb-true i 15 e)
  zeros i false e = let l : 15 ≤ i = ltb-false i 15 e in get_or-eq_default (replicate 15 zero_degrees) zero_degrees {n = i} l

  pub none_filled : Filled told 0 (replicate 15 zero_degrees)
  none_filled = record { fifteen = refl; each = λ i h. absurd (omega arith); rest = λ i h. zeros i (ltb i 15) refl }

  module _ (n : ℕ) (l : List Nanodegrees) (x : Nanodegrees) (f : Filled told n l) (room : n < 15) (t : told n x) where
    here : get_or (set l n x) n zero_degrees ≡ x
    here = get_or-set_same l n x zero_degrees (omega (arith, f.fifteen))

    there : (i : ℕ) → (i ≡ n → ⊥) → get_or (set l n x) i zero_degrees ≡ get_or l i zero_degrees
    there i h = get_or-set_other l n i x zero_degrees h

    told_at : (i : ℕ) → i < n + 1 → (b : Bool) → eqb i n ≡ b → told i (get_or (set l n x) i zero_degrees)
    told_at i h true e = let q : i ≡ n = eqb-true i n e in rw q (subst (λ (y : Nanodegrees). told n y) (sym here) t)
    told_at i h false e =
        let q : i ≡ n → ⊥ = eqb-false i n e in
        subst (λ (y : Nanodegrees). told i y) (sym (there i q)) (f.each i (omega arith))

    pub one_more : Filled told (n + 1) (set l n x)
    one_more = record {
      fifteen = length-set l n x ∙ f.fifteen;
      each = λ i h. told_at i h (eqb i n) refl;
      rest = λ i h. there i (λ q. absurd (omega arith)) ∙ f.rest i (omega arith);
    }
