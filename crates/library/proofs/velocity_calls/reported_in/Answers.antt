-- The record made of the elements is reported, or refused as the elements' numbers are.
use Rattle.std.proofs.lemmas.Result.{err_from_is_err_and}
use Rattle.std.specs.Prelude.{Ok, Err}
use Rattle.ground.proofs.AnswerLaws.{shown, refuted}
use mathlib.Core.Bool.{not}
use mathlib.Core.Path.{ap}
use Rattle.library.proofs.VelocityLaws.{held-velocity-misfit}
use Rattle.library.proofs.CallLaws.{held-velocity-reports}
use Rattle.library.proofs.velocity_calls.reported_in.Goals as goal

pub returns-in_err-velocity_outcome : goal.returns-in_err-velocity_outcome
returns-in_err-velocity_outcome c =
    let cut = refuted c.velocity_is_whole.result (ap not c.if-not-velocity_is_whole.true) c.velocity_is_whole.ensures in
    let p = err_from_is_err_and c.from_residual.result c.from_residual.ensures.1 in
    rw (p.1, p.2) (record { answer = held-velocity-misfit c.args.codes.now cut (Err _) _ (rw c.velocity_in-velocity.ensures at c.in_err-velocity_outcome.ensures); quantities = tt })

pub returns-then-not-velocity_is_whole : goal.returns-then-not-velocity_is_whole
returns-then-not-velocity_is_whole c =
    let cut = refuted c.velocity_is_whole.result (ap not c.if-not-velocity_is_whole.true) c.velocity_is_whole.ensures in
    record { answer = held-velocity-misfit c.args.codes.now cut (Ok tt) _ (rw c.velocity_in-velocity.ensures at c.in_ok-velocity_outcome.ensures); quantities = tt }

pub returns : goal.returns
returns c =
    held-velocity-reports c.args.codes.now c.report_velocity.result (shown c.velocity_is_whole.result (ap not c.if-not-velocity_is_whole.false) c.velocity_is_whole.ensures) (rw c.velocity_in-velocity-2.ensures at c.report_velocity.ensures)
