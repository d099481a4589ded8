-- Laws of sets of quantities, whatever the set.
use mathlib.Core.Path.{◌≡◌, refl, sym, ap, subst}
use mathlib.Core.Bool.{Bool, true, false}
use Prim.Native.Nat.{ℕ, zero, suc, ◌-◌, ◌≤◌}
use native.Mathlib.Omega.{arith}
use lib.Dec.{T}
use lib.IntN.{ℤ, pos, negsuc, nat_abs}
use Rattle.ground.specs.Signs.{is_negative, parts_of, signed}
use Rattle.ground.specs.Sets.{OfSign, LeastOf, NearestOf, Outside, below, above}
use Rattle.ground.specs.declared.signs.Parts.{Parts}

-- ---- a number taken apart is in the set of its sign whose sizes have its size

module _ {P : ℕ → Type 0} where
  pub of_parts : {x : ℤ} {p : Parts} → p ≡ parts_of x → P p.size → OfSign p.negative P x
  of_parts {x} {p} e h = record { sign = ap (λ (q : Parts). q.negative) e; size = subst P (ap (λ (q : Parts). q.size) e) h }

-- ---- the nearest of a sign: the least size with that sign, and -1 for a size of 0 below zero

pub below_one : (y : ℤ) → true ≡ is_negative y → 1 ≤ nat_abs y
below_one (pos n) e = absurd (subst T e tt)
below_one (negsuc n) e = omega arith

module _ {P : ℕ → Type 0} where
  nearest-below : (a : ℕ) → LeastOf P a → (a ≡ 0 → P 1) → NearestOf (OfSign true P) (signed true a)
  nearest-below zero p one = record { member = record { sign = refl; size = one refl }; nearest = λ y q. below_one y q.sign }
  nearest-below (suc a) p one =
      let e : suc (suc a - 1) ≡ suc a = omega arith in
      record { member = record { sign = refl; size = subst P (sym e) p.member }; nearest = λ y q. rw e (p.least (nat_abs y) q.size) }

  pub nearest-signed : (s : Bool) (a : ℕ) → LeastOf P a → (a ≡ 0 → P 1) → NearestOf (OfSign s P) (signed s a)
  nearest-signed false a p one = record { member = record { sign = refl; size = p.member }; nearest = λ y q. p.least (nat_abs y) q.size }
  nearest-signed true a p one = nearest-below a p one

-- ---- what is outside is not inside

pub not-inside : {first last x : ℕ} → Outside first last x → first ≤ x → x ≤ last → ⊥
not-inside (below h) a b = omega arith
not-inside (above h) a b = omega arith
