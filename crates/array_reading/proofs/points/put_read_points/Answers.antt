-- After i turns the elements of i points are put.
use mathlib.Core.Path.{sym, ◌∙◌}
use Prim.Native.Nat.{◌+◌, ◌*◌}
use native.Mathlib.Omega.{arith}
use Rattle.octets.specs.Codes.{latitude_in, longitude_in}
use Rattle.layout.specs.Shapes.{zero_latitude, zero_longitude}
use Rattle.fetching.specs.Fetching.{latitudes_of, longitudes_of}
use Rattle.code_arrays.proofs.PointLaws.{more}
use Rattle.array_reading.proofs.IntoLaws.{point_at}
use Rattle.array_reading.proofs.points.put_read_points.Goals as goal

pub loop-i-preserved : goal.loop-i-preserved
loop-i-preserved c =
    let a = c.args in
    let s = a.s.now in
    let l = c.loop-i in
    let north = point_at (λ i. latitude_in s (8 * (1 + 6 * i))) a.n zero_latitude l.i (omega arith) in
    let east = point_at (λ i. longitude_in s (8 * (4 + 6 * i))) a.n zero_longitude l.i (omega arith) in
    (c.put_point.ensures ∙ more (latitudes_of a.n s) (longitudes_of a.n s) a.out.now l.out l.i l.invariant.0 (c.latitude_at-latitude.ensures ∙ sym north) (c.longitude_at-longitude.ensures ∙ sym east), c.put_point.auto.out ∙ l.invariant.1)
