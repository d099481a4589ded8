-- One code, one report: laws over any set of quantities and any covering.
use mathlib.Core.Path.{◌≡◌, refl, sym, ◌∙◌}
use mathlib.Core.Bool.{Bool, true, false}
use Prim.Native.Nat.{ℕ, zero, suc, ◌+◌, ◌-◌, ◌*◌, ◌≤◌, ◌<◌}
use native.Mathlib.Nat.{le_antisymm}
use native.Mathlib.Omega.{arith}
use lib.IntN.{ℤ, nat_abs}
use Rattle.ground.specs.Signs.{signed}
use Rattle.ground.specs.Sets.{OfSign, LeastOf, GreatestOf, NearestOf, LeastCode, GreatestCovered}
use Rattle.ground.specs.Steps.{SpeedStep}
use Rattle.ground.proofs.SignLaws.{sign-size-one}

pub least-of-one : {P : ℕ → Type 0} {x y : ℕ} → LeastOf P x → LeastOf P y → x ≡ y
least-of-one {P} {x} {y} p q = le_antisymm (p.least y q.member) (q.least x p.member)

pub greatest-of-one : {P : ℕ → Type 0} {x y : ℕ} → GreatestOf P x → GreatestOf P y → x ≡ y
greatest-of-one {P} {x} {y} p q = le_antisymm (q.greatest x p.member) (p.greatest y q.member)

-- ---- a sign and a size: codes of two parts

module _ {C : Type 0} (made : Bool → ℕ → C) (P : ℕ → ℕ → Type 0) (one : (N M a : ℕ) → P N a → P M a → N ≡ M) where
  pub signed-one : {s t : Bool} {N M : ℕ} {x : ℤ} → OfSign s (P N) x → OfSign t (P M) x → made s N ≡ made t M
  signed-one {s} {t} {N} {M} {x} p q =
      let e : s ≡ t = p.sign ∙ sym q.sign in
      let h : N ≡ M = one N M (nat_abs x) p.size q.size in
      cc

pub nearest-one : {s : Bool} {P : ℕ → Type 0} {x y : ℤ} → NearestOf (OfSign s P) x → NearestOf (OfSign s P) y → x ≡ y
nearest-one {s} {P} {x} {y} p q =
    sign-size-one x y (sym p.member.sign ∙ q.member.sign) (le_antisymm (p.nearest y q.member) (q.nearest x p.member))

-- ---- covering

module _ {covers : ℕ → ℕ → Type 0} {last : ℕ} where
  pub least-code-one : {R J K : ℕ} → LeastCode covers last R J → LeastCode covers last R K → J ≡ K
  least-code-one {R} {J} {K} p q =
      let u : K < J → ⊥ = λ l. p.least K l q.covered in
      let v : J < K → ⊥ = λ l. q.least J l p.covered in
      omega arith

  pub covered_one : {K R S : ℕ} → GreatestCovered covers last K R → GreatestCovered covers last K S → R ≡ S
  covered_one {K} {R} {S} p q = le_antisymm (q.greatest R p.covered) (p.greatest S q.covered)

  -- where covering rises with the code, the greatest that a code covers has that code as its least
  pub greatest-least : ((J K R : ℕ) → J < K → covers J R → covers K (R + 1)) → {K R : ℕ} → GreatestCovered covers last K R → LeastCode covers last R K
  greatest-least rises {K} {R} p = record {
    code = p.code;
    covered = p.covered;
    least = λ J l q. omega (arith, p.greatest (R + 1) (rises J K R l q));
  }

-- ---- 1000·N with its sign is in its own step

small_size : (N : ℕ) → N ≤ 255 → (n : ℕ) → n ≡ 1000 * N → SpeedStep 255 N (suc (n - 1))
small_size N h zero e = record { code = h; from = omega arith; below = λ l. omega arith }
small_size N h (suc n) e = record { code = h; from = omega arith; below = λ l. omega arith }

pub own-step : (s : Bool) (N : ℕ) → N ≤ 255 → OfSign s (SpeedStep 255 N) (signed s (1000 * N))
own-step false N h = record { sign = refl; size = record { code = h; from = omega arith; below = λ l. omega arith } }
own-step true N h = record { sign = refl; size = small_size N h (1000 * N) refl }
