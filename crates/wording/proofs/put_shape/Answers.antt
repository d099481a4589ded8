-- The record's text where it was read, else the number of the refusal.
use Rattle.std.specs.Prelude.{Ok}
use mathlib.Core.Path.{refl, ap, ◌∙◌}
use native.Mathlib.Omega.{arith}
use Rattle.text.specs.Text.{decimal}
use Rattle.text.proofs.OutputLaws.{decimal-most}
use Rattle.text.proofs.WithinLaws.{decimal-within}
use Rattle.layout.proofs.ShapeTrips.{shape-accepted}
use Rattle.wording.proofs.NumberLaws.{worded}
use Rattle.wording.proofs.MessageLaws.{shape-done, shape-refused}
use Rattle.wording.proofs.put_shape.Goals as goal

pub put_shape-requires : goal.put_shape-requires
put_shape-requires c =
    record { at_in_bounds = c.requires; takes_shape = shape-accepted c.args.m.now (Ok c.in-Ok.shape) c.in-Ok.ensures c.in-Ok.shape refl }

pub put_decimal-requires : goal.put_decimal-requires
put_decimal-requires c = omega (arith, decimal-most {n = c.from.result} (omega arith))

pub returns-in-Ok : goal.returns-in-Ok
returns-in-Ok c =
    worded (omega arith) (shape-done c.args.m.now c.in-Ok.shape c.in-Ok.ensures) c.put_shape.ensures

pub returns-in-Err : goal.returns-in-Err
returns-in-Err c =
    let refused = shape-refused c.args.m.now c.in-Err.why c.in-Err.ensures in
    worded (omega arith) (ap decimal c.from.ensures ∙ refused) (decimal-within (omega arith) c.put_decimal.ensures)
