-- The numbers of codes in elements of 32 bits.
use Rattle.std.specs.Prelude.{cond, List, ℕ, ◌-◌, ltb, ℤ, pos, negsuc, get_or}

-- the number in an element
abbrev pub element_at : List ℕ → ℕ → ℕ
element_at elements i = get_or elements i 0

-- the number, or the largest where it is greater
abbrev pub capped : ℕ → ℕ → ℕ
capped largest n = cond (ltb largest n) largest n

-- N of a longitude's 32 bits in two's complement, and its 32 bits
abbrev pub from_bits : ℕ → ℤ
from_bits v = cond (ltb v 2147483648) (pos v) (negsuc (4294967295 - v))

abbrev pub bits_of : ℤ → ℕ
bits_of (pos n) = n
bits_of (negsuc n) = 4294967295 - n
