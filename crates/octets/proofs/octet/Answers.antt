-- An octet is the number of its eight bits.
use mathlib.Core.Path.{sym}
use native.Mathlib.Omega.{arith}
use Rattle.octets.proofs.BitLaws.{bits-octet}
use Rattle.octets.proofs.octet.Goals as goal

pub returns : goal.returns
returns c = sym (bits-octet _ _ (omega (arith, c.type_inv.s c.args.at)))
