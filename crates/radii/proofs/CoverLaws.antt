-- Laws of `Covers`, for any scale and any growth num/den of at least 1: covering rises with the code and falls with the length.
use mathlib.Core.Path.{subst}
use mathlib.Core.Logic.{⊎_elim}
use Prim.Native.Nat.{ℕ, zero, suc, ◌+◌, ◌*◌, ◌-◌, ◌^◌, ◌≤◌, ◌<◌}
use native.Mathlib.Nat.{le_trans, mul-le-mul_left, mul-le-mul_right, mul-sub, mul_assoc, mul_comm, pow-suc, eq-or-lt_of_le, le_of_suc-le-suc, add-mul, mul-add, mul_left_comm, add-sub_of_le, pow-le-pow_left}
use native.Mathlib.Omega.{arith}
use lib.Arith.{le-zero}
use Rattle.ground.specs.Sets.{GreatestCovered}
use Rattle.radii.specs.Covering.{Covers}

-- the products that omega cannot see through
grown : (a b n d : ℕ) → d ≤ n → (a - b) * d ≤ a * n - b * d
grown a b n d g = omega (arith, mul_comm (a - b) d, mul-sub d a b, mul_comm d a, mul_comm d b, mul-le-mul_left a g)

spread : (e b d f : ℕ) → e * d + b * f ≤ (b + e) * (d + f) - b * d
spread e b d f = omega (arith, add-mul b e (d + f), mul-add b d f, mul-add e d f)

one_more : (a b n d s t : ℕ) → b ≤ a → d ≤ n → d ≤ s * (n - d) → t * b ≤ s * (a - b) → (t + 1) * (b * d) ≤ s * (a * n - b * d)
one_more a b n d s t ba dn w p =
    let e = a - b in
    let f = n - d in
    let q : e * d + b * f ≤ a * n - b * d = rw (add-sub_of_le ba, add-sub_of_le dn) at (spread e b d f) in
    omega (arith, add-mul t 1 (b * d), mul_assoc t b d, mul-le-mul_right d p, mul_assoc s e d, mul-le-mul_left b w, mul_left_comm b s f, mul-add s (e * d) (b * f), mul-le-mul_left s q)

module _ {scale num den : ℕ} where
  -- what covers a length covers a shorter one
  pub covers_down : {K R S : ℕ} → S ≤ R → Covers scale num den K R → Covers scale num den K S
  covers_down {K} h p = record { within = le_trans (mul-le-mul_right (den ^ K) h) p.within }

  next : {K R : ℕ} → den ≤ num → Covers scale num den K R → Covers scale num den (suc K) R
  next {K} {R} g p =
      let q : R * den ^ K * den ≤ scale * (num ^ K - den ^ K) * den = mul-le-mul_right den p.within in
      record { within = rw (pow-suc, pow-suc) (le_trans (omega (arith, mul_assoc R (den ^ K) den, mul_assoc scale (num ^ K - den ^ K) den)) (mul-le-mul_left scale (grown (num ^ K) (den ^ K) num den g))) }

  -- a later code covers all that an earlier one does
  pub covers_up : {K R : ℕ} → den ≤ num → (J : ℕ) → K ≤ J → Covers scale num den K R → Covers scale num den J R
  covers_up {K} {R} g zero h p = subst (λ (k : ℕ). Covers scale num den k R) (le-zero h) p
  covers_up {K} {R} g (suc J) h p =
      ⊎_elim (λ e. subst (λ (k : ℕ). Covers scale num den k R) e p) (λ l. next g (covers_up g J (le_of_suc-le-suc l) p)) (eq-or-lt_of_le h)

  -- and where a step adds at least 1, a whole millimetre more
  pub covers-next : {K R : ℕ} → den ≤ num → den ≤ scale * (num - den) → Covers scale num den K R → Covers scale num den (suc K) (R + 1)
  covers-next {K} {R} g w p = record { within = rw (pow-suc, pow-suc) (one_more (num ^ K) (den ^ K) num den scale R (pow-le-pow_left g K) g w p.within) }

  -- a comparison with the greatest length that a code covers decides whether it covers a length
  pub covers-from : {last K t R : ℕ} → GreatestCovered (Covers scale num den) last K t → R ≤ t → Covers scale num den K R
  covers-from w h = covers_down h w.covered

  pub covers-none : {last K t R : ℕ} → GreatestCovered (Covers scale num den) last K t → t < R → Covers scale num den K R → ⊥
  covers-none {last} {K} {t} {R} w h p = omega (arith, w.greatest R p)
