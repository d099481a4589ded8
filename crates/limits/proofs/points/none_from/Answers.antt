-- The element k of the part is the element first + k.
use mathlib.Core.Path.{◌≡◌}
use Prim.Native.Nat.{ℕ}
use native.Mathlib.Omega.{arith}
use Rattle.code_arrays.specs.CodeNumbers.{element_at}
use Rattle.code_arrays.proofs.PartLaws.{from-first}
use Rattle.limits.proofs.points.none_from.Goals as goal

pub returns : goal.returns
returns c = from-first (λ (k : ℕ). element_at c.args.codes.now k ≡ 0) c.args.first c.loop-code.code-index 61 (omega arith) c.loop-code.all c.loop-code.invariant
