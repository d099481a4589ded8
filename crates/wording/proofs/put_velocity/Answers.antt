-- The record's text where it was read, else the number of the refusal.
use mathlib.Core.Path.{ap, ◌∙◌}
use native.Mathlib.Omega.{arith}
use Rattle.text.specs.Text.{decimal}
use Rattle.text.proofs.OutputLaws.{decimal-most}
use Rattle.text.proofs.WithinLaws.{decimal-within}
use Rattle.wording.proofs.NumberLaws.{worded}
use Rattle.wording.proofs.MessageLaws.{velocity-done, velocity-refused}
use Rattle.wording.proofs.put_velocity.Goals as goal

pub put_decimal-requires : goal.put_decimal-requires
put_decimal-requires c = omega (arith, decimal-most {n = c.from.result} (omega arith))

pub returns-in-Ok : goal.returns-in-Ok
returns-in-Ok c =
    worded (omega arith) (velocity-done c.args.m.now c.in-Ok.velocity c.in-Ok.ensures) c.put_velocity.ensures

pub returns-in-Err : goal.returns-in-Err
returns-in-Err c =
    let refused = velocity-refused c.args.m.now c.in-Err.why c.in-Err.ensures in
    worded (omega arith) (ap decimal c.from.ensures ∙ refused) (decimal-within (omega arith) c.put_decimal.ensures)
