-- Each point passed has its codes in the arrays.
use Rattle.std.proofs.Common.{◌∙◌, arith, length-set}
use Rattle.outline_codes.proofs.PointLaws.{one_more}
use Rattle.outline_codes.proofs.points.code_points.Goals as goal

pub loop-i-preserved : goal.loop-i-preserved
loop-i-preserved c =
    let a = c.args in
    let l = c.loop-i in
    let code = c.in_ok-code.code in (
      length-set l.points.latitudes l.i code.latitude ∙ l.invariant.0,
      length-set l.points.longitudes l.i code.longitude ∙ l.invariant.1,
      one_more a.latitudes a.longitudes a.n l.points.latitudes l.points.longitudes l.invariant.0 l.invariant.1 l.i code.latitude code.longitude (omega arith) l.invariant.2 c.in_ok-code.ensures,
    )
