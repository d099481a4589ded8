-- Lists that are filled from the front: one element more, for elements of any type.
use Prim.Native.Nat.{ℕ, zero, suc, ◌+◌, ◌-◌, ◌<◌, ◌≤◌}
use mathlib.Core.Path.{◌≡◌, refl, sym, ap, ◌∙◌}
use mathlib.Core.List.{List, ◌∷◌, [], ◌++◌, append_assoc, append-nil}
use native.Mathlib.Numerals.{add-one}
use native.Mathlib.Nat.{add-zero}
use native.Mathlib.Omega.{arith}
use lib.ListN.{length, length-append, set, replicate, replicate-append-replicate}
use lib.Seq.{set_at, append_snoc}
use Rattle.layout.specs.Shapes.{upto}

module _ {A : Type 0} (f : ℕ → A) where
  length-upto : (n : ℕ) → length (upto n f) ≡ n
  length-upto zero = refl
  length-upto (suc n) = length-append (upto n f) (f n ∷ []) ∙ omega (arith, length-upto n)

  -- a store takes n elements, then the padding z, to n + 1 elements
  pub fill : (m n : ℕ) (z : A) → n < m → set (upto n f ++ replicate (m - n) z) n (f n) ≡ upto (n + 1) f ++ replicate (m - (n + 1)) z
  fill m n z h =
      let e : m - n ≡ suc (m - (n + 1)) = omega arith in
      rw e
      (set_at (upto n f) z (replicate (m - (n + 1)) z) (f n) n (length-upto n)
      ∙ sym (append_snoc (upto n f) (f n) (replicate (m - (n + 1)) z))
      ∙ ap (λ (k : ℕ). upto k f ++ replicate (m - (n + 1)) z) (sym (add-one n)))

  upto-same : (n : ℕ) (g : ℕ → A) → ((i : ℕ) → i < n → f i ≡ g i) → upto n f ≡ upto n g
  upto-same zero g same = refl
  upto-same (suc n) g same =
      ap (λ (l : List A). l ++ (f n ∷ [])) (upto-same n g (λ i h. same i (omega arith))) ∙ ap (λ (a : A). upto n g ++ (a ∷ [])) (same n (omega arith))

  more-padding : (k : ℕ) (z : A) → replicate (suc k) z ≡ replicate k z ++ (z ∷ [])
  more-padding k z = ap (λ (n : ℕ). replicate n z) (sym (add-one k)) ∙ sym (replicate-append-replicate k 1 z)

  -- n elements and k times z are the n + k elements of g, where those after the first n are z
  pub padded : (n k : ℕ) (z : A) (g : ℕ → A) → ((i : ℕ) → i < n → f i ≡ g i) → ((i : ℕ) → n ≤ i → z ≡ g i) → upto n f ++ replicate k z ≡ upto (n + k) g
  padded n zero z g same pad = append-nil (upto n f) ∙ upto-same n g same ∙ ap (λ (m : ℕ). upto m g) (sym (add-zero n))
  padded n (suc k) z g same pad =
      let e : suc (n + k) ≡ n + suc k = omega arith in
      ap (λ (l : List A). upto n f ++ l) (more-padding k z)
      ∙ sym (append_assoc (upto n f) (replicate k z) (z ∷ []))
      ∙ ap (λ (l : List A). l ++ (z ∷ [])) (padded n k z g same pad)
      ∙ ap (λ (a : A). upto (n + k) g ++ (a ∷ [])) (pad (n + k) (omega arith))
      ∙ ap (λ (m : ℕ). upto m g) e
