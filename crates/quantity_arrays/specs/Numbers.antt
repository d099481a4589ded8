-- What single elements say of quantities.
use Rattle.std.specs.Prelude.{◌≡◌, Bool, false, cond, ℕ, eqb, ℤ, pos, negsuc, Option, Some, None}
use Rattle.code_arrays.specs.CodeNumbers.{capped}
use Rattle.code_arrays.specs.QuantityNumbers.{missing, Natural32, natural_of}
use Rattle.ground.specs.declared.quantity.PerCent.{PerCent}
use Rattle.ground.specs.declared.quantity.MetresPerHour.{MetresPerHour}

-- a type's number or a count: what an octet can't hold is 255, which is neither
abbrev pub octet_of : ℤ → ℕ
octet_of (pos n) = capped 255 n
octet_of (negsuc n) = 255

-- a number of 32 bits without a sign, if there is one
abbrev pub Optional : ℤ → Type 0
Optional z = (z ≡ missing → ⊥) → Natural32 z

abbrev pub is_missing : ℤ → Bool
is_missing (pos n) = false
is_missing (negsuc n) = eqb n 9223372036854775807

abbrev pub optional_of : ℤ → Option ℕ
optional_of z = cond (is_missing z) None (Some (natural_of z))

abbrev pub optional_element : Option ℕ → ℤ
optional_element (Some n) = pos n
optional_element None = missing

abbrev pub confidence_of : ℤ → Option PerCent
confidence_of z = cond (is_missing z) None (Some (record { 0 = natural_of z }))

abbrev pub confidence_element : Option PerCent → ℤ
confidence_element (Some p) = pos p.0
confidence_element None = missing

abbrev pub uncertainty_speed_of : ℤ → Option MetresPerHour
uncertainty_speed_of z = cond (is_missing z) None (Some (record { 0 = natural_of z }))

abbrev pub uncertainty_speed_element : Option MetresPerHour → ℤ
uncertainty_speed_element (Some s) = pos s.0
uncertainty_speed_element None = missing
