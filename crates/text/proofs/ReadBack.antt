-- What is put of a number is read back as that number.
use Rattle.std.proofs.Common.{◌≡◌, ℕ, zero, suc, ◌+◌, ◌-◌, ◌*◌, ◌/◌, ◌%◌, ◌^◌, ◌<◌, ◌≤◌, Bool, true, false, List, [], ◌∷◌, ◌++◌, ℤ, pos, negsuc, sym, refl, ap, ◌∙◌, ⊎_elim, append_assoc, append-nil, arith, w64, SFits, le-ltb, lt-ltb, ne_eqb, Some}
use native.Mathlib.Nat.{min-eq_left}
use Rattle.ground.specs.Signs.{parts_of}
use Rattle.text.specs.Text.{decimal, signed_decimal}
use Rattle.text.specs.Numerals.{number_from, digits_of, numeral_of}
use Rattle.text.proofs.OutputLaws.{split, decimal-small, decimal-more}
use Rattle.text.proofs.NumeralLaws.{minus}

digit : (negative : Bool) (v d : ℕ) (rest : List ℕ) → d < 10 → number_from negative v ((48 + d) ∷ rest) ≡ number_from negative (10 * v + d) rest
unfolding number_from
digit negative v d rest h =
    let e : 10 * v + (48 + d - 48) ≡ 10 * v + d = omega arith in
    simp (le-ltb (48 + d) 48 (omega arith), lt-ltb (48 + d) 58 (omega arith), e)

-- the digits of n, and then the rest
on : (negative : Bool) (most n : ℕ) (rest : List ℕ) → n < most → number_from negative 0 (decimal n ++ rest) ≡ number_from negative n rest
on negative zero n rest h = absurd (omega arith)
on negative (suc most) n rest h =
    ⊎_elim
    (λ (l : n < 10).
    let e : 10 * 0 + n ≡ n = omega arith in
    rw (decimal-small l) (digit negative 0 n rest l ∙ ap (λ (k : ℕ). number_from negative k rest) e))
    (λ (l : 10 ≤ n).
    let e : 10 * (n / 10) + n % 10 ≡ n = omega arith in
    rw (decimal-more l, append_assoc)
    (on negative most (n / 10) ((48 + n % 10) ∷ rest) (omega arith) ∙ digit negative (n / 10) (n % 10) rest (omega arith) ∙ ap (λ (k : ℕ). number_from negative k rest) e))
    (split n 10)

-- a list that a digit starts
data Starts : List ℕ → Type 0 where
  starts : (d : ℕ) (rest : List ℕ) → d < 10 → Starts ((48 + d) ∷ rest)

longer : {s : List ℕ} (t : List ℕ) → Starts s → Starts (s ++ t)
longer t (starts d rest h) = starts d (rest ++ t) h

decimal-starts : (most n : ℕ) → n < most → Starts (decimal n)
decimal-starts zero n h = absurd (omega arith)
decimal-starts (suc most) n h =
    ⊎_elim (λ (l : n < 10). rw (decimal-small l) (starts n [] l))
    (λ (l : 10 ≤ n). rw (decimal-more l) (longer ((48 + n % 10) ∷ []) (decimal-starts most (n / 10) (omega arith))))
    (split n 10)

some : (negative : Bool) {s : List ℕ} → Starts s → digits_of negative s ≡ number_from negative 0 s
unfolding digits_of
some negative (starts d rest h) = refl

plain : {s : List ℕ} → Starts s → numeral_of s ≡ digits_of false s
unfolding numeral_of
plain (starts d rest h) = simp (ne_eqb (48 + d) 45 (λ e. omega arith))

back : (negative : Bool) (n : ℕ) → n < 2 ^ 64 → digits_of negative (decimal n) ≡ Some (record { negative = negative; size = n })
unfolding number_from
back negative n h =
    let most : n ≤ 18446744073709551615 = omega arith in
    some negative (decimal-starts (suc n) n (omega arith))
    ∙ ap (number_from negative 0) (sym (append-nil (decimal n)))
    ∙ on negative (suc n) n [] (omega arith)
    ∙ rw (min-eq_left most)

pub number-back : (x : ℤ) → SFits w64 x → numeral_of (signed_decimal x) ≡ Some (parts_of x)
unfolding signed_decimal
number-back (pos n) f = plain (decimal-starts (suc n) n (omega arith)) ∙ back false n (omega (arith, f.sfits))
number-back (negsuc n) f = sym (minus (45 ∷ decimal (suc n)) (omega arith) refl) ∙ back true (suc n) (omega (arith, f.sfits))
