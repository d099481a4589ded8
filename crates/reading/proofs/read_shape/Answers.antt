-- The answer to the form, and where it is done the answer to the record's codes.
use native.Mathlib.Omega.{arith}
use Rattle.std.proofs.lemmas.Result.{err_from_is_err_and}
use Rattle.forming.proofs.ReadLaws.{starts, form-refused, of_length, codes-refused, done-read}
use Rattle.reading.proofs.read_shape.Goals as goal

pub returns-in_err-form : goal.returns-in_err-form
returns-in_err-form c =
    let p = err_from_is_err_and c.from_residual.result c.from_residual.ensures.1 in
    rw (p.1, p.2) (form-refused _ _ _ (starts _ _ _ (omega arith) c.octet-first.ensures c.from-kind.ensures) _ c.in_err-form.ensures)

pub shape-shape-requires : goal.shape-shape-requires
shape-shape-requires c =
    let first = starts c.args.s.now _ _ (omega arith) c.octet-first.ensures c.from-kind.ensures in
    record { n_value = first.count; shape_of_length = of_length _ _ _ first c.in_ok-form.ensures }

pub returns-in_err-codes_outcome : goal.returns-in_err-codes_outcome
returns-in_err-codes_outcome c =
    let first = starts c.args.s.now _ _ (omega arith) c.octet-first.ensures c.from-kind.ensures in
    let p = err_from_is_err_and c.from_residual-in_err-codes_outcome.result c.from_residual-in_err-codes_outcome.ensures.1 in
    rw (p.1, p.2) (codes-refused _ _ _ first c.in_ok-form.ensures _ c.shape-shape.ensures _ c.in_err-codes_outcome.ensures)

pub returns : goal.returns
returns c =
    let first = starts c.args.s.now _ _ (omega arith) c.octet-first.ensures c.from-kind.ensures in
    done-read _ _ _ first c.in_ok-form.ensures _ c.shape-shape.ensures c.in_ok-codes_outcome.ensures
