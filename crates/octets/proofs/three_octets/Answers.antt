-- The bits of three octets, joined.
use native.Mathlib.Omega.{arith}
use Rattle.octets.proofs.BitLaws.{bits-three}
use Rattle.octets.proofs.three_octets.Goals as goal

pub returns : goal.returns
returns c =
    let a = c.args in
    omega (arith, bits-three a.s.now a.at, c.octet-high.ensures)
