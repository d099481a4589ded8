-- Text that is put, under another name.
use Prim.Native.Nat.{ℕ, ◌≤◌}
use mathlib.Core.Path.{◌≡◌, subst}
use mathlib.Core.List.{List}
use native.Mathlib.Omega.{arith}
use lib.IntN.{ℤ}
use mir.Syntax.{w32, w64}
use mir.Val.{SFits, to_z, of_z}
use mir.Facts.{to_z-of_z}
use Rattle.ground.specs.Answers.{done}
use Rattle.ground.proofs.SignLaws.{wide_is}
use Rattle.text.specs.Text.{PutsWithin}
use Rattle.fields.specs.Fields.{Field, CodeOf, QuantityOf, Reporting}
use Rattle.fields.specs.Quantities.{Held}
use Rattle.fields.proofs.QuantityLaws.{quantity-is}
use Rattle.wording.specs.Numbers.{number_text, quantity_text, code_text}

module _ {x y : List ℕ} {i j : ℕ} where
  -- where more octets would be allowed
  pub worded : {m n : ℕ} {t u : List ℕ} → m ≤ n → t ≡ u → PutsWithin m x i t y j → PutsWithin n x i u y j
  worded {m} {n} h e p = subst (λ (k : List ℕ). PutsWithin n x i k y j) e (record { puts = p.puts; within = omega (arith, p.within) })

  -- what is reported of a code that its field holds is the code's text
  pub reported : (f : Field) (c : CodeOf f) (q : QuantityOf f) {most : ℕ} → Held f c → Reporting f c (done q) → PutsWithin most x i (quantity_text f q) y j → PutsWithin most x i (code_text f c) y j
  unfolding code_text
  reported f c q {most} h r p = subst (λ (k : QuantityOf f). PutsWithin most x i (quantity_text f k) y j) (quantity-is f c q h r) p

  -- a number that was lent as its bits, and one of 32 bits that was widened
  pub lent : {most : ℕ} (z : ℤ) → SFits w64 z → PutsWithin most x i (number_text (to_z w64 (of_z w64 z))) y j → PutsWithin most x i (number_text z) y j
  lent {most} z f p = subst (λ (k : ℤ). PutsWithin most x i (number_text k) y j) (to_z-of_z f) p

  pub widened : {most : ℕ} (z : ℤ) → SFits w32 z → PutsWithin most x i (number_text (to_z w64 (of_z w64 (to_z w32 (of_z w32 z))))) y j → PutsWithin most x i (number_text z) y j
  widened {most} z f p = subst (λ (k : ℤ). PutsWithin most x i (number_text k) y j) (wide_is f) p
