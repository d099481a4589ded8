-- The order of better: numbers are compared place by place.
use Prim.Native.Nat.{ℕ, ◌≤◌, ◌<◌}
use mathlib.Core.Path.{◌≡◌, sym, refl}
use mathlib.Core.List.{List, [], ◌∷◌}
use native.Mathlib.Omega.{arith}
use Rattle.requests.specs.Choice.{Before, here, later}

-- nothing is before the end
pub ended : {m n : List ℕ} → n ≡ [] → Before m n → ⊥
ended e (here h) = let z : ◌≡◌ {A = ℕ} 0 1 = cc in omega arith
ended e (later d p) = let z : ◌≡◌ {A = ℕ} 0 1 = cc in omega arith

-- not before, by the first place and, where it is the same, by the others
pub place : {a b : ℕ} {m n : List ℕ} → b ≤ a → (a ≡ b → Before m n → ⊥) → Before (a ∷ m) (b ∷ n) → ⊥
place l f (here h) = omega arith
place l f (later e p) = f e p

-- where neither is before the other, the first numbers are the same, and of the others neither is before the other
module _ {a b : ℕ} {m n : List ℕ} (f : Before (a ∷ m) (b ∷ n) → ⊥) (g : Before (b ∷ n) (a ∷ m) → ⊥) where
  pub head-same : a ≡ b
  head-same =
      let u : a < b → ⊥ = λ l. f (here l) in
      let v : b < a → ⊥ = λ l. g (here l) in
      omega arith

  pub tail-not : Before m n → ⊥
  tail-not p = f (later head-same p)

  pub tail-not-back : Before n m → ⊥
  tail-not-back p = g (later (sym head-same) p)

-- what is not before a second, which is not before a third, is not before the third
step : {a b c : ℕ} {m n o : List ℕ} → (Before (a ∷ m) (b ∷ n) → ⊥) → (Before (b ∷ n) (c ∷ o) → ⊥)
    → ((Before m n → ⊥) → (Before n o → ⊥) → Before m o → ⊥) → Before (a ∷ m) (c ∷ o) → ⊥
step {a} {b} {c} f g rest =
    let u : a < b → ⊥ = λ l. f (here l) in
    let v : b < c → ⊥ = λ l. g (here l) in
    place (omega arith) (λ e. rest (λ p. f (later (omega arith) p)) (λ p. g (later (omega arith) p)))

pub not-before-trans : {a b c d a₁ b₁ c₁ d₁ a₂ b₂ c₂ d₂ : ℕ}
    → (Before (a ∷ b ∷ c ∷ d ∷ []) (a₁ ∷ b₁ ∷ c₁ ∷ d₁ ∷ []) → ⊥)
    → (Before (a₁ ∷ b₁ ∷ c₁ ∷ d₁ ∷ []) (a₂ ∷ b₂ ∷ c₂ ∷ d₂ ∷ []) → ⊥)
    → Before (a ∷ b ∷ c ∷ d ∷ []) (a₂ ∷ b₂ ∷ c₂ ∷ d₂ ∷ []) → ⊥
not-before-trans f g = step f g (λ f g. step f g (λ f g. step f g (λ f g. step f g (λ f g. ended refl))))
