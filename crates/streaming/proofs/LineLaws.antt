-- Laws of the lines of an input.
use Rattle.std.proofs.Common.{◌≡◌, ℕ, zero, suc, ◌+◌, ◌<◌, ◌≤◌, Bool, true, false, eqb, List, [], ◌∷◌, ◌++◌, length, get_or, refl, ◌∙◌, append_assoc, append-nil, arith, length-append, ne_eqb}
use Rattle.streaming.specs.Lines.{last_of, lines_from, lines_of, NoNewline}

from-line : (f l s : List ℕ) → ((k : ℕ) → k < length l → get_or l k 0 ≡ 10 → ⊥) → lines_from f (l ++ 10 ∷ s) ≡ (f ++ l) ∷ lines_of s
unfolding lines_from
from-line f [] s n = rw append-nil
from-line f (b ∷ l) s n = rw (ne_eqb b 10 (n 0 (omega arith)), from-line (f ++ b ∷ []) l s (λ k h. n (suc k) (omega arith)), append_assoc)

from_last : (f l : List ℕ) → ((k : ℕ) → k < length l → get_or l k 0 ≡ 10 → ⊥) → lines_from f l ≡ last_of (f ++ l)
unfolding lines_from
from_last f [] n = rw append-nil
from_last f (b ∷ l) n = rw (ne_eqb b 10 (n 0 (omega arith)), from_last (f ++ b ∷ []) l (λ k h. n (suc k) (omega arith)), append_assoc)

-- a line, its newline, and the lines behind it
pub line_first : (l s : List ℕ) → NoNewline l → lines_of (l ++ 10 ∷ s) ≡ l ∷ lines_of s
line_first l s n = from-line [] l s n.none

-- a last line
some-last : (l : List ℕ) → 0 < length l → last_of l ≡ l ∷ []
some-last [] h = absurd (omega arith)
some-last (b ∷ l) h = refl

pub line-last : (l : List ℕ) → NoNewline l → 0 < length l → lines_of l ≡ l ∷ []
line-last l n h = from_last [] l n.none ∙ some-last l h

pub no_lines : lines_of [] ≡ []
unfolding lines_from
no_lines = refl

-- no more lines than octets
few-last : (l : List ℕ) → length (last_of l) ≤ length l
few-last [] = omega arith
few-last (b ∷ l) = omega arith

few-by : (f s : List ℕ) (b : ℕ) (t : Bool) → eqb b 10 ≡ t → ((g : List ℕ) → length (lines_from g s) ≤ length g + length s) → length (lines_from f (b ∷ s)) ≤ length f + length (b ∷ s)
unfolding lines_from
few-by f s b true e few = rw e (omega (arith, few []))
few-by f s b false e few = rw e (omega (arith, few (f ++ b ∷ []), length-append f (b ∷ [])))

few-nil : (f : List ℕ) → length (lines_from f []) ≤ length f + 0
unfolding lines_from
few-nil f = omega (arith, few-last f)

few-from : (f s : List ℕ) → length (lines_from f s) ≤ length f + length s
few-from f [] = few-nil f
few-from f (b ∷ s) = few-by f s b (eqb b 10) refl (λ g. few-from g s)

pub few-lines : (s : List ℕ) → length (lines_of s) ≤ length s
few-lines s = omega (arith, few-from [] s)

-- no newline in two parts
pub no-newlines : {l m : List ℕ} → NoNewline l → NoNewline m → NoNewline (l ++ m)
no-newlines {l} {m} a b = record { none = by l a.none }
  where
    by : (l : List ℕ) → ((k : ℕ) → k < length l → get_or l k 0 ≡ 10 → ⊥) → (k : ℕ) → k < length (l ++ m) → get_or (l ++ m) k 0 ≡ 10 → ⊥
    by [] n k h e = b.none k h e
    by (x ∷ l) n zero h e = n 0 (omega arith) e
    by (x ∷ l) n (suc k) h e = by l (λ j i. n (suc j) (omega arith)) k (omega arith) e
