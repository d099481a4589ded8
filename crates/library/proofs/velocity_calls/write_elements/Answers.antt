-- The record made of the elements is written, or refused as the elements' numbers are.
use Rattle.std.proofs.lemmas.Result.{err_from_is_err_and}
use Rattle.std.specs.Prelude.{Ok, Err}
use Rattle.ground.proofs.AnswerLaws.{shown, refuted}
use mathlib.Core.Bool.{not}
use mathlib.Core.Path.{refl, ap}
use Rattle.library.proofs.VelocityLaws.{held-velocity-writes, held-velocity-misfit}
use Rattle.library.proofs.velocity_calls.write_elements.Goals as goal

pub returns-in_err-velocity_outcome : goal.returns-in_err-velocity_outcome
returns-in_err-velocity_outcome c =
    let cut = refuted c.velocity_is_whole.result (ap not c.if-not-velocity_is_whole.true) c.velocity_is_whole.ensures in
    let p = err_from_is_err_and c.from_residual.result c.from_residual.ensures.1 in
    rw (p.1, p.2) (record { answer = held-velocity-misfit c.args.codes.now cut (Err _) _ (rw c.velocity_in-velocity.ensures at c.in_err-velocity_outcome.ensures); written = tt; buffer = refl })

pub returns-then-not-velocity_is_whole : goal.returns-then-not-velocity_is_whole
returns-then-not-velocity_is_whole c =
    let cut = refuted c.velocity_is_whole.result (ap not c.if-not-velocity_is_whole.true) c.velocity_is_whole.ensures in
    record { answer = held-velocity-misfit c.args.codes.now cut (Ok tt) _ (rw c.velocity_in-velocity.ensures at c.in_ok-velocity_outcome.ensures); written = tt; buffer = refl }

pub returns : goal.returns
returns c =
    held-velocity-writes c.args.codes.now (shown c.velocity_is_whole.result (ap not c.if-not-velocity_is_whole.false) c.velocity_is_whole.ensures) _ _ c.write_velocity.result (rw c.velocity_in-velocity-2.ensures at c.write_velocity.ensures)
