-- The low seven of eight bits are what is left over 128.
use Prim.Native.Nat.{◌*◌}
use native.Mathlib.Omega.{arith}
use Rattle.octets.proofs.BitLaws.{bits-low}
use Rattle.octets.proofs.low_seven.Goals as goal

pub returns : goal.returns
returns c =
    let a = c.args in
    omega (arith, bits-low a.s.now (8 * a.at) 1 7, c.octet.ensures)
