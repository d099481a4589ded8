-- The head, the bearing, the horizontal speed, and what follows them.
use mathlib.Core.Path.{ap}
use native.Mathlib.Omega.{arith}
use Rattle.fields.specs.Fields as field
use Rattle.quantities.specs.Places as place
use Rattle.quantities.proofs.HeldLaws.{velocity-held, motion-taken}
use Rattle.wording.specs.Numbers.{head_text}
use Rattle.text.proofs.WithinLaws.{after}
use Rattle.wording.proofs.NumberLaws.{worded, reported}
use Rattle.wording.proofs.VelocityTextLaws.{motion-text}
use Rattle.wording.proofs.velocity_text.put_velocity.Goals as goal

pub returns : goal.returns
returns c =
    let x = c.args.velocity in
    let t = c.requires.takes_velocity in
    let head = worded {n = 22} (omega arith) (ap head_text c.from.ensures) c.put_head-a.ensures in
    let bearing = reported field.bearing x.bearing c.bearing.result (velocity-held x t place.bearing) c.bearing.ensures c.put_natural-b.ensures in
    let speed = reported field.horizontal_speed x.horizontal_speed c.reported_horizontal_speed.result (velocity-held x t place.horizontal_speed) c.reported_horizontal_speed.ensures c.put_natural-c.ensures in
    worded (omega arith) (motion-text x (motion-taken x t).listed) (after head (after bearing (after speed c.put_rest.ensures)))
