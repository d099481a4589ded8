-- A numeral as a number of some width.
use Rattle.std.specs.Prelude.{◌≡◌, ℕ, ◌-◌, ◌^◌, ◌<◌, cond, ℤ, pos, negsuc, neg_ℤ, Option, Some, None}
use Rattle.std.specs.Int.Signed.{mag}
use Rattle.ground.specs.declared.signs.Parts.{Parts}
use Rattle.text.specs.declared.widths.Size.{Size}
use Rattle.text.specs.declared.widths.Size.TheVariants as size

-- the number that a sign and a size mean, where minus zero is zero
abbrev pub signed_value : Parts → ℤ
signed_value p = cond p.negative (neg_ℤ (pos p.size)) (pos p.size)

-- the numeral is a number, and it is z
pub record Means (n : Option Parts) (z : ℤ) : Type 0 where
  pub parts : Parts
  pub number : n ≡ Some parts
  pub value : signed_value parts ≡ z

-- from -2 ^ (bits - 1) up to and without 2 ^ (bits - 1) (`mag` of n and of -(n + 1) is n)
pub record FitsSigned (bits : ℕ) (z : ℤ) : Type 0 where
  pub fits : mag z < 2 ^ (bits - 1)

-- the numeral's number where 64 bits hold it, and outside where there is none that they hold
abbrev pub AsSigned64 : Option Parts → Option ℤ → Type 0
AsSigned64 n (Some x) = Means n x × FitsSigned 64 x
AsSigned64 n None = (x : ℤ) → Means n x → FitsSigned 64 x → ⊥

-- the same with 32 bits
abbrev pub AsSigned32 : Option Parts → Option ℤ → Type 0
AsSigned32 n (Some x) = Means n x × FitsSigned 32 x
AsSigned32 n None = (x : ℤ) → Means n x → FitsSigned 32 x → ⊥

-- the same with 32 bits and no sign
abbrev pub AsUnsigned32 : Option Parts → Option ℕ → Type 0
AsUnsigned32 n (Some x) = Means n (pos x) × (x < 2 ^ 32)
AsUnsigned32 n None = (x : ℕ) → Means n (pos x) → x < 2 ^ 32 → ⊥

-- the numeral is a number below zero (`negsuc n` is -(n + 1))
pub record IsBelow (n : Option Parts) : Type 0 where
  pub less : ℕ
  pub means : Means n (negsuc less)

-- the numeral's number where it has no sign, and whether one below zero or none at all stands in its place
abbrev pub AsSize : Option Parts → Size → Type 0
AsSize n (size.Code x) = Means n (pos x)
AsSize n size.Below = IsBelow n
AsSize n size.Nothing = n ≡ None
