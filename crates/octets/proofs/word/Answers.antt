-- The bits of two octets, joined.
use native.Mathlib.Omega.{arith}
use Rattle.octets.proofs.BitLaws.{bits-two}
use Rattle.octets.proofs.word.Goals as goal

pub returns : goal.returns
returns c =
    let a = c.args in
    omega (arith, bits-two a.s.now a.at, c.octet-high.ensures)
