-- The quantities that the elements say are coded, or are 7 after what comes before it.
use Rattle.std.proofs.lemmas.Result.{err_from_is_err_and}
use Rattle.std.specs.Prelude.{Ok, Err}
use Rattle.ground.proofs.AnswerLaws.{shown, refuted}
use mathlib.Core.Bool.{not}
use mathlib.Core.Path.{refl, ap}
use Rattle.library.proofs.CallLaws.{misfit-velocity-codes, arrived-velocity-codes}
use Rattle.library.proofs.velocity_calls.coded_in.Goals as goal

pub returns-in_err-kind_outcome : goal.returns-in_err-kind_outcome
returns-in_err-kind_outcome c =
    let misfit = refuted c.velocity_arrives.result (ap not c.if-not-velocity_arrives.true) c.velocity_arrives.ensures in
    let p = err_from_is_err_and c.from_residual.result c.from_residual.ensures.1 in
    rw (p.1, p.2) (misfit-velocity-codes c.args.given.now (Err _) _ refl (rw c.velocity_quantities_in-quantities.ensures at c.in_err-kind_outcome.ensures) misfit)

pub returns-then-not-velocity_arrives : goal.returns-then-not-velocity_arrives
returns-then-not-velocity_arrives c =
    let misfit = refuted c.velocity_arrives.result (ap not c.if-not-velocity_arrives.true) c.velocity_arrives.ensures in
    misfit-velocity-codes c.args.given.now (Ok tt) _ refl (rw c.velocity_quantities_in-quantities.ensures at c.in_ok-kind_outcome.ensures) misfit

pub returns : goal.returns
returns c =
    arrived-velocity-codes c.args.given.now c.code_velocity.result (shown c.velocity_arrives.result (ap not c.if-not-velocity_arrives.false) c.velocity_arrives.ensures) (rw c.velocity_quantities_in-quantities-2.ensures at c.code_velocity.ensures)
