-- By the kind: what is reported of each code, one after another.
use native.Mathlib.Omega.{arith}
use Rattle.fields.specs.Fields as field
use Rattle.text.proofs.WithinLaws.{after, fewer}
use Rattle.wording.proofs.NumberLaws.{reported, widened}
use borrow.Author.Rules.{rules}
use Rattle.wording.proofs.velocity_text.put_rest.Goals as goal

pub returns-in-HorizontalVertical : goal.returns-in-HorizontalVertical
returns-in-HorizontalVertical c =
    let x = c.args.velocity in
    let vertical = reported field.vertical_speed x.vertical_speed c.reported_vertical_speed.result (omega (arith, c.well_formed)) c.reported_vertical_speed.ensures (widened c.reported_vertical_speed.result.0 (search rules) c.put_signed.ensures) in
    rw c.in-HorizontalVertical.is (fewer (omega arith) vertical)

pub returns-in-HorizontalVerticalUncertain : goal.returns-in-HorizontalVerticalUncertain
returns-in-HorizontalVerticalUncertain c =
    let x = c.args.velocity in
    let vertical = reported field.vertical_speed x.vertical_speed c.reported_vertical_speed.result (omega (arith, c.well_formed)) c.reported_vertical_speed.ensures (widened c.reported_vertical_speed.result.0 (search rules) c.put_signed-a.ensures) in
    rw c.in-HorizontalVerticalUncertain.is (after (after vertical c.put_uncertainty-b.ensures) c.put_uncertainty-in-HorizontalVerticalUncertain.ensures)
