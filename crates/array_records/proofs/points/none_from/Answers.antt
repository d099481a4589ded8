-- The element k of the part is the element first + k.
use mathlib.Core.Path.{◌≡◌}
use Prim.Native.Nat.{ℕ}
use native.Mathlib.Omega.{arith}
use lib.IntN.{pos}
use Rattle.code_arrays.specs.QuantityNumbers.{quantity_in}
use Rattle.code_arrays.proofs.PartLaws.{from-first}
use Rattle.array_records.proofs.points.none_from.Goals as goal

pub returns : goal.returns
returns c = from-first (λ (k : ℕ). quantity_in c.args.given.now k ≡ pos 0) c.args.first c.loop-element.element-index 44 (omega arith) c.loop-element.all c.loop-element.invariant
