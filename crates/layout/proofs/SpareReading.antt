-- Spare bits are ignored on reading: octets that differ in them alone have the same numbers and the same answer, over any rows.
use Prim.Native.Nat.{ℕ}
use mathlib.Core.Path.{◌≡◌, refl, subst}
use mathlib.Core.Bool.{cond}
use mathlib.Core.List.{List, [], ◌∷◌}
use lib.Dec.{eqb}
use lib.ListN.{length}
use Rattle.layout.specs.Layout.{MessageField, Row}
use Rattle.layout.specs.Rows.{All, tag, read}
use Rattle.layout.specs.Demands.{NumbersAnswer, ReadAnswer}
use Rattle.layout.specs.Messages.{in_row, SameButSpare}

numbers-same : (s t : List ℕ) (rows : List Row) → All (λ r. in_row s r ≡ in_row t r) rows → (f : MessageField) → read s rows f ≡ read t rows f
numbers-same s t [] same f = refl
numbers-same s t (r ∷ rs) same f = λ i. cond (eqb (tag f) (tag r.field)) (same.0 i) (numbers-same s t rs same.1 f i)

module _ (rows : List Row) (s t : List ℕ) (same : SameButSpare rows s t) where
  pub spare-numbers : read s rows ≡ read t rows
  spare-numbers = λ i f. numbers-same s t rows same.each f i

  pub spare-answer : (n : ℕ) → ReadAnswer rows s n → ReadAnswer rows t n
  spare-answer n h =
      subst (λ (octets : ℕ). NumbersAnswer rows octets (read t rows) n) same.long
      (subst (λ (number : MessageField → ℕ). NumbersAnswer rows (length s) number n) spare-numbers h)
