-- The zeros stand in the place of the points.
use Prim.Native.Nat.{◌+◌, ◌*◌, ◌-◌}
use native.Mathlib.Omega.{arith}
use lib.IntN.{pos}
use Rattle.code_arrays.proofs.ClearLaws.{cleared}
use Rattle.quantity_arrays.proofs.shape.clear_from.Goals as goal

pub returns : goal.returns
returns c =
    let n = c.args.n in
    cleared (pos 0) c.args.out.now _ (14 + 2 * n) (44 - (14 + 2 * n)) (30 - 2 * n) (omega arith) (omega arith) (c.fill.ensures.after (λ y e. e))
