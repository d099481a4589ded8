-- What the definition of a numeral says of the octet at each place.
use Rattle.std.proofs.Common.{◌≡◌, ℕ, suc, ◌+◌, ◌-◌, ◌*◌, ◌%◌, ◌<◌, ◌≤◌, min, Bool, true, false, T, List, [], ◌∷◌, ◌++◌, length, get_or, take, drop, sym, refl, ap, ◌∙◌, subst, ⊎_elim, append_assoc, append-nil, le_of_lt, arith, length-drop, take_all, drop-cons, drop-drop, take-add, below_more, le-ltb, lt-ltb, eq-eqb, ne_eqb, Option, Some, None}
use native.Mathlib.Nat.{min-eq_left, min-eq_right}
use Rattle.ground.specs.declared.signs.Parts.{Parts}
use Rattle.text.specs.declared.numeral.Digits.{Digits}
use Rattle.text.specs.Numerals.{is_digit, number_from, digits_of, numeral_of, DigitRow, DigitsFrom}
use Rattle.text.proofs.OutputLaws.{split}

-- two numbers past the largest are read on alike
large : (negative : Bool) (v w : ℕ) (s : List ℕ) → 18446744073709551615 ≤ v → 18446744073709551615 ≤ w → number_from negative v s ≡ number_from negative w s
unfolding number_from
large negative v w [] a b = rw (min-eq_right a, min-eq_right b)
large negative v w (d ∷ s) a b =
    rw (large negative (10 * v + (d - 48)) (10 * w + (d - 48)) s (omega arith) (omega arith))

-- a number may be cut to the largest before the rest is read
cut : (negative : Bool) (v : ℕ) (s : List ℕ) → number_from negative (min v 18446744073709551615) s ≡ number_from negative v s
cut negative v s =
    ⊎_elim (λ (h : v < 18446744073709551615). rw (min-eq_left (le_of_lt h)))
    (λ (h : 18446744073709551615 ≤ v). rw (min-eq_right h) (large negative 18446744073709551615 v s (omega arith) h))
    (split v 18446744073709551615)

-- ---- one octet

-- d is the octet b less 48, modulo 2 ^ 64
module _ {b d : ℕ} (e : (d + 48) % 18446744073709551616 ≡ b) where
  pub value : d ≤ 9 → b - 48 ≡ d
  value h = omega arith

  pub digit : d ≤ 9 → is_digit b ≡ true
  digit h = simp (le-ltb b 48 (omega arith), lt-ltb b 58 (omega arith))

  pub no_digit : 9 < d → d < 18446744073709551616 → is_digit b ≡ false
  no_digit h l = ⊎_elim (λ (u : b < 48). simp (lt-ltb b 48 u)) (λ (u : 48 ≤ b). simp (le-ltb b 48 u, le-ltb b 58 (omega arith))) (split b 48)

pub nothing-from : (negative : Bool) (v b : ℕ) (s : List ℕ) → is_digit b ≡ false → None ≡ number_from negative v (b ∷ s)
unfolding number_from
nothing-from negative v b s e = rw e

one-digit : (negative : Bool) (v b : ℕ) (s : List ℕ) → is_digit b ≡ true → number_from negative v (b ∷ s) ≡ number_from negative (min (10 * v + (b - 48)) 18446744073709551615) s
unfolding number_from
one-digit negative v b s e = rw e (sym (cut negative (10 * v + (b - 48)) s))

-- ---- digits in a row

part-more : (s : List ℕ) (from i : ℕ) → from ≤ i → i < length s → take (i + 1 - from) (drop from s) ≡ take (i - from) (drop from s) ++ (get_or s i 0 ∷ [])
part-more s from i h l =
    let a : i + 1 - from ≡ i - from + 1 = omega arith in
    let b : from + (i - from) ≡ i = omega arith in
    rw (a, take-add (i - from) 1 (drop from s), drop-drop (i - from) from s, b, drop-cons s i 0 l)

pub row_more : {s : List ℕ} {from v i : ℕ} → DigitRow s from v i → i < length s → is_digit (get_or s i 0) ≡ true → DigitRow s from (min (10 * v + (get_or s i 0 - 48)) 18446744073709551615) (i + 1)
row_more {s} {from} {v} {i} r h e =
    record {
      after = omega (arith, r.after);
      inside = omega arith;
      each = below_more _ _ r.each (λ _. e);
      on = λ negative rest.
          rw (part-more s from i r.after h, append_assoc)
          (r.on negative (get_or s i 0 ∷ rest) ∙ one-digit negative v (get_or s i 0) rest e);
    }

-- a part of s with an octet in it
some-part : (negative : Bool) (s : List ℕ) (from e : ℕ) → from < e → e ≤ length s → digits_of negative (take (e - from) (drop from s)) ≡ number_from negative 0 (take (e - from) (drop from s))
unfolding digits_of
some-part negative s from e h l =
    let a : e - from ≡ suc (e - from - 1) = omega arith in
    rw (a, drop-cons s from 0 (omega arith))

pub no_part : (negative : Bool) (s : List ℕ) (from : ℕ) → digits_of negative (take (from - from) (drop from s)) ≡ None
unfolding digits_of
no_part negative s from =
    let a : from - from ≡ 0 = omega arith in
    rw a

module _ {s : List ℕ} {from v i : ℕ} (r : DigitRow s from v i) (negative : Bool) where
  -- a part that goes on after the row, with no digit
  pub row-stopped : (e : ℕ) → i < e → e ≤ length s → is_digit (get_or s i 0) ≡ false → digits_of negative (take (e - from) (drop from s)) ≡ None
  row-stopped e h l d =
      let a : e - from ≡ i - from + suc (e - i - 1) = omega (arith, r.after) in
      let b : from + (i - from) ≡ i = omega (arith, r.after) in
      some-part negative s from e (omega (arith, r.after)) l
      ∙ rw (a, take-add (i - from) (suc (e - i - 1)) (drop from s), drop-drop (i - from) from s, b, drop-cons s i 0 (omega arith))
      (r.on negative (get_or s i 0 ∷ take (e - i - 1) (drop (suc i) s)) ∙ sym (nothing-from negative v (get_or s i 0) (take (e - i - 1) (drop (suc i) s)) d))

  -- the row alone
  pub row-whole : from < i → v ≤ 18446744073709551615 → digits_of negative (take (i - from) (drop from s)) ≡ Some (record { negative = negative; size = v })
  unfolding number_from
  row-whole h l =
      some-part negative s from i h r.inside
      ∙ ap (number_from negative 0) (sym (append-nil (take (i - from) (drop from s))))
      ∙ r.on negative []
      ∙ rw (min-eq_left l)

-- a part up to the end
pub all-part : (s : List ℕ) (from e : ℕ) → length s ≤ e → take (e - from) (drop from s) ≡ drop from s
all-part s from e h = take_all (e - from) (drop from s) (rw length-drop (omega arith))

-- there is one answer
ends-before : {s : List ℕ} {from : ℕ} {q r : Digits} → DigitsFrom s from q → DigitsFrom s from r → q.end < r.end → ⊥
ends-before {q = q} a b h = subst T (sym (b.row.each q.end h a.row.after) ∙ a.stops (omega (arith, b.row.inside))) tt

size-of-row : {s : List ℕ} {from v i : ℕ} → v ≤ 18446744073709551615 → DigitRow s from v i → number_from false 0 (take (i - from) (drop from s) ++ []) ≡ Some (record { negative = false; size = v })
unfolding number_from
size-of-row h r = r.on false [] ∙ rw (min-eq_left h)

pub digits-one : {s : List ℕ} {from : ℕ} {q r : Digits} → q.size ≤ 18446744073709551615 → r.size ≤ 18446744073709551615 → DigitsFrom s from q → DigitsFrom s from r → q ≡ r
digits-one {s} {from} {q} {r} l m a b =
    let e : q.end ≡ r.end =
    ⊎_elim (λ (h : q.end < r.end). absurd (ends-before a b h))
    (λ (h : r.end ≤ q.end). ⊎_elim (λ (k : r.end < q.end). absurd (ends-before b a k)) (λ (k : q.end ≤ r.end). omega arith) (split r.end q.end))
    (split q.end r.end) in
    let n : ◌≡◌ {A = Option Parts} (Some (record { negative = false; size = q.size })) (Some (record { negative = false; size = r.size })) =
    sym (size-of-row l a.row) ∙ ap (λ (k : ℕ). number_from false 0 (take (k - from) (drop from s) ++ [])) e ∙ size-of-row m b.row in
    let p : ◌≡◌ {A = Parts} (record { negative = false; size = q.size }) (record { negative = false; size = r.size }) = cc in
    λ i. record { size = (p i).size; end = e i }

-- by the first octet: none, a minus sign, another
pub empty : (s : List ℕ) → length s ≡ 0 → None ≡ numeral_of s
unfolding numeral_of
empty [] e = refl
empty (b ∷ s) e = absurd (omega arith)

pub minus : (s : List ℕ) → 0 < length s → get_or s 0 0 ≡ 45 → digits_of true (drop 1 s) ≡ numeral_of s
unfolding numeral_of
minus [] h e = absurd (omega arith)
minus (b ∷ s) h e = simp (eq-eqb b 45 e)

pub plain : (s : List ℕ) → 0 < length s → (get_or s 0 0 ≡ 45 → ⊥) → digits_of false (drop 0 s) ≡ numeral_of s
unfolding numeral_of
plain [] h e = absurd (omega arith)
plain (b ∷ s) h e = simp (ne_eqb b 45 e)
