-- By the amount.
use Rattle.std.proofs.lemmas.Result.{err_from_is_err_and}
use Rattle.request_lines.proofs.AskingLaws.{no-confidence, confidence-says}
use Rattle.request_lines.proofs.amounts.confidence_of.Goals as goal

pub returns-in_err-amount_of : goal.returns-in_err-amount_of
returns-in_err-amount_of c = λ f h. rw (err_from_is_err_and c.from_residual.result c.from_residual.ensures.1).1 (no-confidence (c.in_err-amount_of.ensures f h))

pub returns : goal.returns
returns c = λ f h. confidence-says f c.in_ok-amount_of.field-0 c.map.result c.map.ensures.cases (c.in_ok-amount_of.ensures f h)
