-- The answer to the form, and where it is done the demand on the record's bearing.
use Rattle.std.proofs.lemmas.Result.{err_from_is_err_and}
use native.Mathlib.Omega.{arith}
use Rattle.velocities.proofs.FirstOctet.{kind-in}
use Rattle.velocities.proofs.ReadLaws.{form-refused, bearing-refused, done-read}
use Rattle.velocities.proofs.read_velocity.Goals as goal

pub returns-in_err-of_message : goal.returns-in_err-of_message
returns-in_err-of_message c =
    let p = err_from_is_err_and c.from_residual.result c.from_residual.ensures.1 in
    rw (p.1, p.2) (form-refused _ _ (omega arith) (kind-in _ _ c.octet-first.ensures _ c.from-kind.ensures) _ c.in_err-of_message.ensures)

pub returns-then-velocity-ge360 : goal.returns-then-velocity-ge360
returns-then-velocity-ge360 c =
    bearing-refused _ _ (omega arith) (kind-in _ _ c.octet-first.ensures _ c.from-kind.ensures) c.in_ok-of_message.ensures _ c.velocity-velocity.ensures c.if-velocity-ge360.true

pub returns : goal.returns
returns c =
    done-read _ _ (omega arith) (kind-in _ _ c.octet-first.ensures _ c.from-kind.ensures) c.in_ok-of_message.ensures _ c.velocity-velocity.ensures c.if-velocity-ge360.false
