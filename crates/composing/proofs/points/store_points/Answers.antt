-- Six octets more at each turn, from the three elements of a point.
use Prim.Native.Nat.{◌+◌, ◌*◌}
use mathlib.Core.Path.{◌∙◌}
use native.Mathlib.Omega.{arith}
use lib.Seq.{sets}
use Rattle.code_arrays.specs.Shapes.{record_in}
use Rattle.composing.proofs.ElementRecords.{point-size, point-octets}
use Rattle.composing.proofs.StoreLaws.{more}
use Rattle.composing.proofs.points.store_points.Goals as goal

pub put_position-requires-clause-latitude_bound : goal.put_position-requires-clause-latitude_bound
put_position-requires-clause-latitude_bound c = point-size c.args.codes.now c.loop-i.i (omega arith) (c.requires.used_within c.loop-i.i (omega arith))

pub loop-i-preserved : goal.loop-i-preserved
loop-i-preserved c =
    let x = record_in c.args.codes.now in
    let l = c.loop-i in
    let octets = point-octets c.args.codes.now l.i (omega arith) (c.requires.used_within l.i (omega arith)) c.longitude_of-longitude.ensures in (
      l.invariant.0,
      c.put_position.ensures ∙ (λ j. sets (l.invariant.1 j) (1 + 6 * l.i) (octets j)) ∙ more x.latitudes x.longitudes c.args.out.now l.i,
      c.put_position.auto.out ∙ l.invariant.2,
    )
