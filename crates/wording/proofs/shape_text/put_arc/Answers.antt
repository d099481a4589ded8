-- What is reported of each code, one after another.
use native.Mathlib.Omega.{arith}
use Rattle.quantities.specs.Places as place
use Rattle.quantities.proofs.HeldLaws.{shape-held}
use Rattle.text.proofs.WithinLaws.{after, fewer}
use Rattle.wording.proofs.ShapeTextLaws.{reported-at}
use Rattle.wording.proofs.shape_text.put_arc.Goals as goal

pub uncertainty-requires : goal.uncertainty-requires
uncertainty-requires c = shape-held c.args.shape c.requires.takes_shape place.uncertainty

pub returns : goal.returns
returns c =
    let x = c.args.shape in
    let t = c.requires.takes_shape in
    let radius = reported-at x t place.inner_radius c.reported_inner_radius.result c.reported_inner_radius.ensures c.put_natural-a.ensures in
    let uncertain = reported-at x t place.uncertainty c.uncertainty.result c.uncertainty.ensures c.put_natural-b.ensures in
    let from = reported-at x t place.offset c.offset.result c.offset.ensures c.put_natural-c.ensures in
    let over = reported-at x t place.included c.included.result c.included.ensures c.put_natural-d.ensures in
    fewer (omega arith) (after (after (after (after radius uncertain) from) over) c.put_confidence.ensures)
