-- The answer to the form, then to what arrives, and the rest where both are met.
use Rattle.std.proofs.lemmas.Result.{err_from_is_err_and}
use Rattle.ground.proofs.AnswerLaws.{refuted}
use Rattle.records.specs.Kinds.{Formed}
use Rattle.records.proofs.FormLaws.{formed}
use Rattle.quantity_arrays.specs.Shapes.{quantities_in}
use Rattle.array_records.proofs.IntoLaws.{form-into, misfit-into}
use mathlib.Core.Bool.{not}
use mathlib.Core.Path.{ap}
use Rattle.array_records.proofs.code.Goals as goal

pub returns-in_err-form : goal.returns-in_err-form
returns-in_err-form c =
    let p = err_from_is_err_and c.from_residual.result c.from_residual.ensures.1 in
    rw (p.1, p.2) (form-into c.args.given.now _ (rw c.outline_in-outline.ensures at c.in_err-form.ensures))

pub returns-then-not-shape_arrives : goal.returns-then-not-shape_arrives
returns-then-not-shape_arrives c =
    let has-form : Formed (quantities_in c.args.given.now) = formed (quantities_in c.args.given.now) (rw c.outline_in-outline.ensures at c.in_ok-form.ensures) in
    misfit-into c.args.given.now has-form (refuted c.shape_arrives.result (ap not c.if-not-shape_arrives.true) c.shape_arrives.ensures)
