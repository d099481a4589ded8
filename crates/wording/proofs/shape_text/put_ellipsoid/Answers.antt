-- What is reported of each code, one after another.
use mir.Syntax.{w32}
use mir.Val.{SFits}
use native.Mathlib.Omega.{arith}
use Rattle.quantities.specs.Places as place
use Rattle.quantities.proofs.HeldLaws.{shape-held}
use Rattle.text.proofs.WithinLaws.{after}
use Rattle.wording.proofs.NumberLaws.{widened}
use Rattle.wording.proofs.ShapeTextLaws.{reported-at}
use borrow.Author.Rules.{rules}
use Rattle.wording.proofs.shape_text.put_ellipsoid.Goals as goal

pub altitude-requires : goal.altitude-requires
altitude-requires c = shape-held c.args.shape c.requires.takes_shape place.altitude

pub put_axes-b-requires : goal.put_axes-b-requires
put_axes-b-requires c =
    let x = c.args.shape in
    let t = c.requires.takes_shape in
    record { at_in_bounds = omega (arith, c.put_signed-a.ensures.within); semi_major_bound = shape-held x t place.semi_major; semi_minor_bound = shape-held x t place.semi_minor; orientation_bound = shape-held x t place.orientation }

pub altitude_uncertainty-requires : goal.altitude_uncertainty-requires
altitude_uncertainty-requires c = shape-held c.args.shape c.requires.takes_shape place.altitude_uncertainty

pub returns : goal.returns
returns c =
    let in-32-bits : SFits w32 c.altitude.result.0 = search rules in
    let x = c.args.shape in
    let t = c.requires.takes_shape in
    let height = reported-at x t place.altitude c.altitude.result c.altitude.ensures (widened c.altitude.result.0 in-32-bits c.put_signed-a.ensures) in
    let uncertain = reported-at x t place.altitude_uncertainty c.altitude_uncertainty.result c.altitude_uncertainty.ensures c.put_natural-c.ensures in
    after (after (after height c.put_axes-b.ensures) uncertain) c.put_confidence.ensures
