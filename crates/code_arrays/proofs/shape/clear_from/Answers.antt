-- The zeros stand in the place of the points.
use Prim.Native.Nat.{◌+◌, ◌*◌, ◌-◌}
use native.Mathlib.Omega.{arith}
use Rattle.code_arrays.proofs.ClearLaws.{cleared}
use Rattle.code_arrays.proofs.shape.clear_from.Goals as goal

pub returns : goal.returns
returns c =
    let n = c.args.n in
    cleared 0 c.args.out.now _ (16 + 3 * n) (61 - (16 + 3 * n)) (45 - 3 * n) (omega arith) (omega arith) (c.fill.ensures.after (λ y e. e))
