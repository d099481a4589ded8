-- The codes of more than one part, as the numbers that stand in a message's bits.
use Rattle.std.specs.Prelude.{Bool, true, false, cond, ℕ, ◌+◌, ◌-◌, ◌*◌, eqb, ltb, List, ◌++◌, ℤ, pos, negsuc}
use Rattle.ground.specs.declared.code.AltitudeCode.{AltitudeCode}
use Rattle.ground.specs.declared.code.LatitudeCode.{LatitudeCode}
use Rattle.ground.specs.declared.code.LongitudeCode.{LongitudeCode}
use Rattle.octets.specs.Bits.{bits, octets}

-- a sign's bit, and the sign of a bit
abbrev pub bit_of : Bool → ℕ
bit_of true = 1
bit_of false = 0

abbrev pub sign_of : ℕ → Bool
sign_of n = eqb n 1

-- the number of 24 bits that is N in two's complement; 2^24, which no 24 bits hold, where there is none
abbrev pub complement : ℤ → ℕ
complement (pos n) = cond (ltb n 8388608) n 16777216
complement (negsuc n) = cond (ltb n 8388608) (16777215 - n) 16777216

-- N of a number of 24 bits in two's complement
unfoldable pub from_complement : ℕ → ℤ
from_complement v = cond (ltb v 8388608) (pos v) (negsuc (16777215 - v))

-- S and N of a latitude, as the number of 24 bits that they make
abbrev pub latitude_bits : LatitudeCode → ℕ
latitude_bits c = bit_of c.0 * 8388608 + c.1

-- D and N of an altitude, of 16 bits
abbrev pub level_bits : AltitudeCode → ℕ
level_bits c = bit_of c.0 * 32768 + c.1

-- the codes whose first bit is `first`
abbrev pub latitude_in : List ℕ → ℕ → LatitudeCode
latitude_in s first = record { 0 = sign_of (bits s first 1); 1 = bits s (first + 1) 23 }

abbrev pub longitude_in : List ℕ → ℕ → LongitudeCode
longitude_in s first = record { 0 = from_complement (bits s first 24) }

abbrev pub altitude_in : List ℕ → ℕ → AltitudeCode
altitude_in s first = record { 0 = sign_of (bits s first 1); 1 = bits s (first + 1) 15 }

-- the six octets of a position, and the two of an altitude
abbrev pub position : LatitudeCode → LongitudeCode → List ℕ
position latitude longitude = octets 3 (latitude_bits latitude) ++ octets 3 (complement longitude.0)

abbrev pub level : AltitudeCode → List ℕ
level c = octets 2 (level_bits c)
