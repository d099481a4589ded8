-- A point more at each turn.
use Rattle.std.proofs.Common.{arith}
use Rattle.text.proofs.WithinLaws.{after}
use Rattle.wording.proofs.NumberLaws.{worded}
use Rattle.wording.proofs.ShapeTextLaws.{one_more}
use Rattle.wording.proofs.shape_text.put_points.Goals as goal

pub loop-i-preserved : goal.loop-i-preserved
loop-i-preserved c =
    worded (omega arith) (one_more c.args.latitudes c.args.longitudes c.loop-i.i) (after c.loop-i.invariant c.put_position-next.ensures)
