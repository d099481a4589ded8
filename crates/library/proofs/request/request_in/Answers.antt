-- Where an element says nothing, no request is said.
use Rattle.std.proofs.lemmas.Result.{err_from_is_err_and}
use Rattle.code_arrays.specs.QuantityNumbers.{quantity_in}
use Rattle.code_arrays.proofs.NumberLaws.{element-read}
use borrow.Author.Rules.{rules}
use Rattle.library.proofs.request.request_in.Goals as goal

pub returns-in_err-altitude_in : goal.returns-in_err-altitude_in
returns-in_err-altitude_in c =
    rw (err_from_is_err_and c.from_residual.result c.from_residual.ensures.1).1
    (λ q s. (rw (element-read {z = quantity_in c.args.given.now 2} (search rules)) at c.in_err-altitude_in.ensures) q.altitude s.altitudes)

pub returns-in_err-uncertainty_in : goal.returns-in_err-uncertainty_in
returns-in_err-uncertainty_in c =
    rw (err_from_is_err_and c.from_residual-in_err-uncertainty_in.result c.from_residual-in_err-uncertainty_in.ensures.1).1
    (λ q s. (rw (element-read {z = quantity_in c.args.given.now 6} (search rules)) at c.in_err-uncertainty_in.ensures) q.altitude_uncertainty s.heights)

pub returns-in_err-confidence_in : goal.returns-in_err-confidence_in
returns-in_err-confidence_in c =
    rw (err_from_is_err_and c.from_residual-in_err-confidence_in.result c.from_residual-in_err-confidence_in.ensures.1).1
    (λ q s. (rw (element-read {z = quantity_in c.args.given.now 7} (search rules)) at c.in_err-confidence_in.ensures) q.confidence s.confidences)
