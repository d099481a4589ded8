-- After i turns the record has i points, and zeros after them.
use Prim.Native.Nat.{◌+◌, ◌*◌}
use mathlib.Core.Path.{ap, ◌∙◌}
use native.Mathlib.Omega.{arith}
use lib.ListN.{set}
use Rattle.ground.specs.declared.code.LatitudeCode.{LatitudeCode}
use Rattle.ground.specs.declared.code.LongitudeCode.{LongitudeCode}
use Rattle.octets.specs.Codes.{from_complement, latitude_in, longitude_in}
use Rattle.layout.specs.declared.shape.Kind.TheVariants.{Polygon}
use Rattle.layout.specs.Shapes.{blank_shape, zero_latitude, zero_longitude}
use Rattle.fetching.specs.Fetching.{pointed, latitudes_of, longitudes_of}
use Rattle.fetching.proofs.Filling.{fill}
use Rattle.fetching.proofs.points.polygon.Goals as goal

pub loop-i-init : goal.loop-i-init
unfolding from_complement
loop-i-init c = rw c.blank_shape-shape.ensures

pub loop-i-preserved : goal.loop-i-preserved
loop-i-preserved c =
    let l = c.loop-i in
    let a = c.args in
    let s = a.s.now in
    let lats = fill {A = LatitudeCode} (λ i. latitude_in s (8 * (1 + 6 * i))) 15 l.i zero_latitude (omega arith) in
    let lons = fill {A = LongitudeCode} (λ i. longitude_in s (8 * (4 + 6 * i))) 15 l.i zero_longitude (omega arith) in
    let p = ap (λ (v : LatitudeCode). set (latitudes_of l.i s) l.i v) c.latitude_at-latitude.ensures ∙ lats in
    let q = ap (λ (v : LongitudeCode). set (longitudes_of l.i s) l.i v) c.longitude_at-longitude.ensures ∙ lons in
    rw l.invariant (λ i. pointed (blank_shape Polygon) a.n (p i) (q i))
