-- The number that a field writes.
use Rattle.std.specs.Prelude.{◌≡◌, ℕ, ◌+◌, ◌-◌, ◌*◌, ◌<◌, ◌≤◌, min, Bool, true, false, cond, List, [], ◌∷◌, ◌++◌, length, ◌==◌, nat_lt, slice_index, slice_range, Option, Some, None}
use Rattle.text.specs.declared.numeral.Digits.{Digits}
use Rattle.ground.specs.declared.signs.Parts.{Parts}

-- 48 to 57
abbrev pub is_digit : ℕ → Bool
is_digit b = cond (nat_lt b 48) false (nat_lt b 58)

-- digits after the number v, and their sign. The size is what 64 bits hold of it, at most their largest number.
unfoldable pub number_from : Bool → ℕ → List ℕ → Option Parts
number_from negative v [] = Some (record { negative = negative; size = min v 18446744073709551615 })
number_from negative v (b ∷ s) = cond (is_digit b) (number_from negative (10 * v + (b - 48)) s) None

-- one digit or more, and nothing else
unfoldable pub digits_of : Bool → List ℕ → Option Parts
digits_of negative [] = None
digits_of negative (b ∷ s) = number_from negative 0 (b ∷ s)

-- a minus sign (45) or none, and digits
unfoldable pub numeral_of : List ℕ → Option Parts
numeral_of [] = None
numeral_of (b ∷ s) = cond (b == 45) (digits_of true s) (digits_of false (b ∷ s))

-- ---- digits in a row

-- all from `from` up to `end` are digits, and what comes after them is read on from the size
pub record DigitRow (s : List ℕ) (from size end : ℕ) : Type 0 where
  pub after : from ≤ end
  pub inside : end ≤ length s
  pub each : (k : ℕ) → k < end → from ≤ k → is_digit (slice_index s k) ≡ true
  pub on : (negative : Bool) (rest : List ℕ) → number_from negative 0 (slice_range s from end ++ rest) ≡ number_from negative size rest

-- no digit stands where they end
pub record DigitsFrom (s : List ℕ) (from : ℕ) (r : Digits) : Type 0 where
  pub row : DigitRow s from r.size r.end
  pub stops : r.end < length s → is_digit (slice_index s r.end) ≡ false
