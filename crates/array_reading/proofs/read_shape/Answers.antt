-- No octets: 1. Else the answer to the form, and where it is done the polygon or the outline.
use mathlib.Core.Path.{refl}
use native.Mathlib.Omega.{arith}
use Rattle.std.proofs.lemmas.Result.{err_from_is_err_and}
use Rattle.ground.specs.Answers.{unmet}
use Rattle.forming.proofs.ReadLaws.{refused-read, starts, form-refused}
use Rattle.array_reading.proofs.IntoLaws.{refused-into}
use Rattle.array_reading.proofs.read_shape.Goals as goal

pub returns-then-s-eq0 : goal.returns-then-s-eq0
returns-then-s-eq0 c = refused-into _ (refused-read _ _ (unmet (λ h. absurd (omega arith)) refl))

pub returns-in_err-form : goal.returns-in_err-form
returns-in_err-form c =
    let first = starts c.args.s.now _ _ (omega arith) c.octet-first.ensures c.from-kind.ensures in
    let p = err_from_is_err_and c.from_residual.result c.from_residual.ensures.1 in
    rw (p.1, p.2) (refused-into _ (form-refused _ _ _ first _ c.in_err-form.ensures))

pub read_polygon-requires-clause-starts : goal.read_polygon-requires-clause-starts
read_polygon-requires-clause-starts c =
    rw c.in-Polygon.is at (starts c.args.s.now _ _ (omega arith) c.octet-first.ensures c.from-kind.ensures)

pub read_outline-requires : goal.read_outline-requires
read_outline-requires c =
    let first = starts c.args.s.now _ _ (omega arith) c.octet-first.ensures c.from-kind.ensures in
    record { fact = c.in_default.not-Polygon; starts = first; message_form_answer = c.in_ok-form.ensures }
