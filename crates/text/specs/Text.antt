-- Numbers as text, and text put into a buffer.
use Rattle.std.specs.Prelude.{◌≡◌, ℕ, zero, suc, ◌+◌, ◌*◌, ◌/◌, ◌%◌, ◌<◌, ◌≤◌, cond, List, [], ◌∷◌, ◌++◌, length, ℤ, pos, negsuc, nat_lt}
use Rattle.std.proofs.lemmas.List.Edits.{sets}

-- the decimal digits of n, at most `most` of them
unfoldable pub decimal_in : ℕ → ℕ → List ℕ
decimal_in zero n = []
decimal_in (suc most) n = cond (nat_lt n 10) ((48 + n) ∷ []) (decimal_in most (n / 10) ++ ((48 + n % 10) ∷ []))

-- n in decimal, with no zero in front
unfoldable pub decimal : ℕ → List ℕ
decimal n = decimal_in (suc n) n

-- two digits, four, and eight
abbrev pub pair : ℕ → List ℕ
pair n = (48 + n / 10) ∷ (48 + n % 10) ∷ []

abbrev pub four : ℕ → List ℕ
four n = pair (n / 100) ++ pair (n % 100)

abbrev pub eight : ℕ → List ℕ
eight n = four (n / 10000) ++ four (n % 10000)

-- numbers below a base as one number, the first lowest
unfoldable pub joined : ℕ → List ℕ → ℕ
joined base [] = 0
joined base (x ∷ s) = x + base * joined base s

-- four numbers in sixteen bits each, and the four pairs of eight digits so
abbrev pub lanes : ℕ → ℕ → ℕ → ℕ → ℕ
lanes a b c d = joined 65536 (a ∷ b ∷ c ∷ d ∷ [])

abbrev pub pairs : ℕ → ℕ
pairs n = lanes (n / 10000 / 100) (n / 10000 % 100) (n % 10000 / 100) (n % 10000 % 100)

-- x is four numbers so, each of at most two digits
pub record FourPairs (x : ℕ) : Type 0 where
  pub first : ℕ
  pub second : ℕ
  pub third : ℕ
  pub fourth : ℕ
  pub first_small : first < 100
  pub second_small : second < 100
  pub third_small : third < 100
  pub fourth_small : fourth < 100
  pub side_by_side : x ≡ lanes first second third fourth

-- r is their tens, each where its number was
abbrev pub Tens : ℕ → ℕ → Type 0
Tens x r = (p : FourPairs x) → r ≡ lanes (p.first / 10) (p.second / 10) (p.third / 10) (p.fourth / 10)

-- r is their digits, each in an octet
abbrev pub Digits : ℕ → ℕ → Type 0
Digits x r = (p : FourPairs x) → r ≡ joined 256 (pair p.first ++ pair p.second ++ pair p.third ++ pair p.fourth)

-- a whole number in decimal, with a minus sign where it is below zero
unfoldable pub signed_decimal : ℤ → List ℕ
signed_decimal (pos n) = decimal n
signed_decimal (negsuc n) = 45 ∷ decimal (suc n)

-- 0 to 9, A to F
abbrev pub hexadecimal : ℕ → ℕ
hexadecimal n = cond (nat_lt n 10) (48 + n) (55 + n)

-- a space and two digits
abbrev pub octet_text : ℕ → List ℕ
octet_text b = 32 ∷ hexadecimal (b / 16) ∷ hexadecimal (b % 16) ∷ []

-- octets, a space before each
unfoldable pub octets_text : List ℕ → List ℕ
octets_text [] = []
octets_text (b ∷ s) = octet_text b ++ octets_text s

-- `after` is `before` with the text put at `at`, all else as it was, and `next` is the place past it
pub record Puts (before : List ℕ) (at : ℕ) (text after : List ℕ) (next : ℕ) : Type 0 where
  pub content : after ≡ sets before at text
  pub place : next ≡ at + length text

-- the text is put, and takes at most so many octets
pub record PutsWithin (most : ℕ) (before : List ℕ) (at : ℕ) (text after : List ℕ) (next : ℕ) : Type 0 where
  pub puts : Puts before at text after next
  pub within : next ≤ at + most
