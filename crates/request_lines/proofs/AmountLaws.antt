-- What amounts say together, over any fields that say a number or are absent.
use Rattle.std.specs.Prelude.{◌≡◌, Option, Some, None, Result, Ok, Err, MatchOption, IsSomeAnd}
use Prim.Native.Nat.{ℕ}
use Rattle.ground.specs.declared.quantity.Millimetres.{Millimetres}
use Rattle.ground.specs.declared.quantity.PerCent.{PerCent}
use Rattle.requests.specs.declared.Horizontal.{Horizontal}
use Rattle.requests.specs.declared.Horizontal.TheVariants as horizontal
use Rattle.request_lines.specs.declared.Unreadable.{Unreadable}
use Rattle.request_lines.specs.Reading.{area_given}

module _ {F : Type 0} (IsAbsent : F → Type 0) (Says : F → ℕ → Type 0) where
  abbrev SaysNone : F → Type 0
  SaysNone f = (IsAbsent f → ⊥) × ((n : ℕ) → Says f n → ⊥)

  abbrev SaysAmount : F → Option ℕ → Type 0
  SaysAmount f (Some n) = Says f n
  SaysAmount f None = IsAbsent f

  abbrev SaysArea : F → F → F → Horizontal → Type 0
  SaysArea f g h (horizontal.Circle R) = Says f R.0 × IsAbsent g × IsAbsent h
  SaysArea f g h (horizontal.Ellipse R S a) = Says f R.0 × Says g S.0 × Says h a.0
  SaysArea f g h horizontal.NotAsked = IsAbsent f × IsAbsent g × IsAbsent h

  abbrev ReadsArea : F → F → F → Result Horizontal Unreadable → Type 0
  ReadsArea f g h (Ok a) = SaysArea f g h a
  ReadsArea f g h (Err _) = (a : Horizontal) → SaysArea f g h a → ⊥

  abbrev SaysHeight : F → Option Millimetres → Type 0
  SaysHeight f (Some R) = Says f R.0
  SaysHeight f None = IsAbsent f

  abbrev SaysSure : F → Option PerCent → Type 0
  SaysSure f (Some p) = Says f p.0
  SaysSure f None = IsAbsent f

  -- ---- the altitude's uncertainty, the confidence

  pub no-uncertainty : {f : F} → SaysNone f → (a : Option Millimetres) → SaysHeight f a → ⊥
  no-uncertainty n (Some R) s = n.1 R.0 s
  no-uncertainty n None s = n.0 s

  pub no-confidence : {f : F} → SaysNone f → (a : Option PerCent) → SaysSure f a → ⊥
  no-confidence n (Some p) s = n.1 p.0 s
  no-confidence n None s = n.0 s

  -- an amount as a quantity
  pub uncertainty-says : (f : F) (n : Option ℕ) (m : Option Millimetres) → MatchOption n (m ≡ None) (λ x. IsSomeAnd m (λ R. R.0 ≡ x)) → SaysAmount f n → SaysHeight f m
  uncertainty-says f None m e s = rw e s
  uncertainty-says f (Some x) None e s = absurd e
  uncertainty-says f (Some x) (Some R) e s = rw e s

  pub confidence-says : (f : F) (n : Option ℕ) (m : Option PerCent) → MatchOption n (m ≡ None) (λ x. IsSomeAnd m (λ p. p.0 ≡ x)) → SaysAmount f n → SaysSure f m
  confidence-says f None m e s = rw e s
  confidence-says f (Some x) None e s = absurd e
  confidence-says f (Some x) (Some p) e s = rw e s

  -- ---- the horizontal uncertainty

  module _ (f g h : F) where
    -- none is said where one of the three says nothing
    pub no-major : SaysNone f → (x : Horizontal) → SaysArea f g h x → ⊥
    no-major n (horizontal.Circle R) s = n.1 R.0 s.0
    no-major n (horizontal.Ellipse R S a) s = n.1 R.0 s.0
    no-major n horizontal.NotAsked s = n.0 s.0

    pub no-minor : SaysNone g → (x : Horizontal) → SaysArea f g h x → ⊥
    no-minor n (horizontal.Circle R) s = n.0 s.1
    no-minor n (horizontal.Ellipse R S a) s = n.1 S.0 s.1
    no-minor n horizontal.NotAsked s = n.0 s.1

    pub no-turn : SaysNone h → (x : Horizontal) → SaysArea f g h x → ⊥
    no-turn n (horizontal.Circle R) s = n.0 s.2
    no-turn n (horizontal.Ellipse R S a) s = n.1 a.0 s.2
    no-turn n horizontal.NotAsked s = n.0 s.2

    module _ (apart : (f : F) (n : ℕ) → Says f n → IsAbsent f → ⊥) where
      -- no circle, no ellipse, and not none
      refuted : ((R : ℕ) → Says f R → IsAbsent g → IsAbsent h → ⊥) → ((R S a : ℕ) → Says f R → Says g S → Says h a → ⊥) → (IsAbsent f → IsAbsent g → IsAbsent h → ⊥)
          → (x : Horizontal) → SaysArea f g h x → ⊥
      refuted c e n (horizontal.Circle R) s = c R.0 s.0 s.1 s.2
      refuted c e n (horizontal.Ellipse R S a) s = e R.0 S.0 a.0 s.0 s.1 s.2
      refuted c e n horizontal.NotAsked s = n s.0 s.1 s.2

      pub horizontal-reads : (R S a : Option ℕ) → SaysAmount f R → SaysAmount g S → SaysAmount h a → ReadsArea f g h (area_given R S a)
      horizontal-reads (Some R) (Some S) (Some a) p q r = (p, q, r)
      horizontal-reads (Some R) (Some S) None p q r = refuted (λ R u v w. apart _ _ q v) (λ R S a u v w. apart _ _ w r) (λ u v w. apart _ _ p u)
      horizontal-reads (Some R) None (Some a) p q r = refuted (λ R u v w. apart _ _ r w) (λ R S a u v w. apart _ _ v q) (λ u v w. apart _ _ p u)
      horizontal-reads (Some R) None None p q r = (p, q, r)
      horizontal-reads None (Some S) a p q r = refuted (λ R u v w. apart _ _ u p) (λ R S a u v w. apart _ _ u p) (λ u v w. apart _ _ q v)
      horizontal-reads None None (Some a) p q r = refuted (λ R u v w. apart _ _ u p) (λ R S a u v w. apart _ _ u p) (λ u v w. apart _ _ r w)
      horizontal-reads None None None p q r = (p, q, r)
