-- What a first octet says of D, and with the second of the bearing.
use Prim.Native.Nat.{ℕ, ◌+◌, ◌*◌, ◌/◌, ◌%◌}
use mathlib.Core.Path.{◌≡◌}
use mathlib.Core.List.{List}
use native.Mathlib.Omega.{arith}
use Rattle.octets.specs.Bits.{bits}
use Rattle.octets.proofs.BitLaws.{bits-join, bits-high, bits-low}

module _ (s : List ℕ) (first : ℕ) (e : first ≡ bits s 0 8) where
  pub down-in : bits s 6 1 ≡ first / 2 % 2
  down-in = omega (arith, bits-high s 0 7 1, bits-low s 0 6 1)

  pub bearing-in : bits s 7 9 ≡ first % 2 * 256 + bits s 8 8
  bearing-in = omega (arith, bits-join s 7 1 8, bits-low s 0 7 1)
