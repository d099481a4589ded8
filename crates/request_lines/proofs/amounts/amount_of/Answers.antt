-- What is no number that 32 bits hold, and no dash.
use Rattle.std.proofs.lemmas.Result.{err_from_is_err_and}
use Rattle.text.proofs.SaysLaws.{unsigned-none, unsigned-unread}
use Rattle.request_lines.proofs.AskingLaws.{no-dash}
use Rattle.request_lines.proofs.amounts.amount_of.Goals as goal

pub returns-in_err-amount : goal.returns-in_err-amount
returns-in_err-amount c = λ f h.
    rw (err_from_is_err_and c.from_residual.result c.from_residual.ensures.1).1
    (no-dash f c.args.entry c.in_default.not-Dash h, unsigned-unread (unsigned-none f (c.numeral_of.ensures f h) c.in_err-amount.ensures.ok_part c.unsigned_32.ensures))
