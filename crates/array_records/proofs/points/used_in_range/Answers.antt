-- The points passed have their codes; one that has none is out of range.
use native.Mathlib.Omega.{arith}
use borrow.Author.Rules.{rules}
use Rattle.array_records.proofs.PointLaws.{coded-at, refused-point, coded-point, none-coded, one-coded}
use Rattle.array_records.proofs.points.used_in_range.Goals as goal

pub loop-i-init : goal.loop-i-init
loop-i-init c = none-coded _

pub returns-then-is_err : goal.returns-then-is_err
returns-then-is_err c =
    let point = coded-at c.args.given.now c.loop-i.i (omega arith) (search rules) (search rules) c.code_point.result c.code_point.ensures in
    λ h. refused-point c.code_point.result (search rules) point (h c.loop-i.i (omega arith))

pub loop-i-preserved : goal.loop-i-preserved
loop-i-preserved c =
    let point = coded-at c.args.given.now c.loop-i.i (omega arith) (search rules) (search rules) c.code_point.result c.code_point.ensures in
    one-coded c.args.given.now c.loop-i.i (omega arith) c.loop-i.invariant (coded-point c.code_point.result (search rules) point).1
