-- By the kind: what is reported of each code, one after another.
use native.Mathlib.Omega.{arith}
use Rattle.quantities.specs.Places as place
use Rattle.quantities.proofs.HeldLaws.{shape-held}
use Rattle.text.proofs.WithinLaws.{after, fewer}
use Rattle.wording.proofs.NumberLaws.{widened}
use Rattle.wording.proofs.ShapeTextLaws.{reported-at}
use borrow.Author.Rules.{rules}
use Rattle.wording.proofs.shape_text.put_rest.Goals as goal

pub uncertainty-requires : goal.uncertainty-requires
uncertainty-requires c = shape-held c.args.shape c.requires.takes_shape place.uncertainty

pub put_axes-a-requires : goal.put_axes-a-requires
put_axes-a-requires c =
    let x = c.args.shape in
    let t = c.requires.takes_shape in
    record { at_in_bounds = omega arith; semi_major_bound = shape-held x t place.semi_major; semi_minor_bound = shape-held x t place.semi_minor; orientation_bound = shape-held x t place.orientation }

pub altitude-requires : goal.altitude-requires
altitude-requires c = shape-held c.args.shape c.requires.takes_shape place.altitude

pub returns-in-Circle : goal.returns-in-Circle
returns-in-Circle c =
    let x = c.args.shape in
    let t = c.requires.takes_shape in
    let uncertain = reported-at x t place.uncertainty c.uncertainty.result c.uncertainty.ensures c.put_natural.ensures in
    rw c.in-Circle.is (fewer (omega arith) uncertain)

pub returns-in-Ellipse : goal.returns-in-Ellipse
returns-in-Ellipse c = rw c.in-Ellipse.is (fewer (omega arith) (after c.put_axes-a.ensures c.put_confidence.ensures))

pub returns-in-AltitudePoint : goal.returns-in-AltitudePoint
returns-in-AltitudePoint c =
    let x = c.args.shape in
    let t = c.requires.takes_shape in
    let height = reported-at x t place.altitude c.altitude.result c.altitude.ensures (widened c.altitude.result.0 (search rules) c.put_signed.ensures) in
    rw c.in-AltitudePoint.is (fewer (omega arith) height)
