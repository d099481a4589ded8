-- The first of 16 bits is the sign, the other 15 are the number.
use Prim.Native.Nat.{ℕ, ◌*◌}
use mathlib.Core.Bool.{Bool}
use mathlib.Core.Path.{◌≡◌}
use native.Mathlib.Omega.{arith}
use Rattle.ground.specs.declared.code.AltitudeCode.{AltitudeCode}
use Rattle.octets.specs.Bits.{bits}
use Rattle.octets.proofs.BitLaws.{bits-high, bits-low}
use Rattle.octets.proofs.altitude_at.Goals as goal

by_parts : {a b : Bool} {m n : ℕ} → a ≡ b → m ≡ n → ◌≡◌ {A = AltitudeCode} (record { 0 = a; 1 = m }) (record { 0 = b; 1 = n })
by_parts sign number = λ i. record { 0 = sign i; 1 = number i }

pub returns : goal.returns
returns c =
    let s = c.args.s.now in
    let first = 8 * c.args.at in
    let e : c.word-n.result ≡ bits s first 16 = c.word-n.ensures in
    rw e (by_parts (rw (bits-high s first 1 15)) (omega (arith, bits-low s first 1 15)))
