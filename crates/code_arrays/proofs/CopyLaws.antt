-- Elements put into an array after elements that are there, over any element.
use mathlib.Core.Path.{◌≡◌, sym, ap, ◌∙◌}
use mathlib.Core.List.{List, ◌++◌}
use Prim.Native.Nat.{ℕ, ◌+◌, ◌≤◌}
use native.Mathlib.Omega.{arith}
use lib.ListN.{length, drop, length-append, length-drop}
use lib.Seq.{take_at, drop-append-add, drop-drop, sets, sets-eq}

module _ {A : Type 0} where
  -- elements put after the n first
  pub sets-after : (a b l : List A) {n m : ℕ} → length a ≡ n → n + length b ≡ m → m ≤ length l → sets (a ++ drop n l) n b ≡ (a ++ b) ++ drop m l
  sets-after a b l {n} {m} e f h =
      let k : length (a ++ drop n l) ≡ length l = length-append a (drop n l) ∙ omega (arith, length-drop n l) in
      sets-eq b (a ++ drop n l) n (omega arith)
      ∙ ap (λ (t : List A). t ++ b ++ drop (n + length b) (a ++ drop n l)) (take_at a (drop n l) n e)
      ∙ ap (λ (t : List A). a ++ b ++ t)
      (ap (λ (j : ℕ). drop (j + length b) (a ++ drop n l)) (sym e) ∙ drop-append-add a (drop n l) (length b) ∙ drop-drop (length b) n l ∙ ap (λ (j : ℕ). drop j l) f)
