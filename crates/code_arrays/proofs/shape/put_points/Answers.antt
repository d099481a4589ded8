-- A turn puts one point more.
use mathlib.Core.Path.{refl, ◌∙◌}
use Rattle.code_arrays.proofs.PointLaws.{more}
use Rattle.code_arrays.proofs.shape.put_points.Goals as goal

pub loop-i-preserved : goal.loop-i-preserved
loop-i-preserved c =
    let a = c.args in
    let l = c.loop-i in
    (c.put_point.ensures ∙ more a.latitudes a.longitudes a.out.now l.out l.i l.invariant.0 refl refl, c.put_point.auto.out ∙ l.invariant.1)
