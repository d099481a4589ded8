-- The numbers of quantities in elements of 64 bits.
use Rattle.std.specs.Prelude.{cond, List, ℕ, ◌<◌, ◌^◌, ltb, ℤ, pos, negsuc, get_or}
use Rattle.std.specs.Int.Signed.{mag}

abbrev pub quantity_in : List ℤ → ℕ → ℤ
quantity_in elements i = get_or elements i (pos 0)

-- the mark of a missing quantity: -2 ^ 63 (`negsuc k` is -(k + 1))
abbrev pub missing : ℤ
missing = negsuc 9223372036854775807

-- 32 bits without a sign hold the number; with one (`mag` of n and of -(n + 1) is n)
abbrev pub Natural32 : ℤ → Type 0
Natural32 (pos n) = n < 2 ^ 32
Natural32 (negsuc n) = ⊥

abbrev pub Signed32 : ℤ → Type 0
Signed32 z = mag z < 2 ^ 31

-- the number, and 0 where they don't
abbrev pub natural_of : ℤ → ℕ
natural_of (pos n) = cond (ltb n 4294967296) n 0
natural_of (negsuc n) = 0

abbrev pub signed_of : ℤ → ℤ
signed_of z = cond (ltb (mag z) 2147483648) z (pos 0)
