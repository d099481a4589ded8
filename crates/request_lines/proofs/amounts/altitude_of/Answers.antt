-- What is no number that 32 bits hold, and no dash.
use Rattle.std.proofs.lemmas.Result.{err_from_is_err_and}
use Rattle.text.proofs.SaysLaws.{signed-none}
use Rattle.request_lines.proofs.AskingLaws.{no-dash, no-altitude}
use Rattle.request_lines.proofs.amounts.altitude_of.Goals as goal

pub returns-in_err-altitude : goal.returns-in_err-altitude
returns-in_err-altitude c = λ f h.
    rw (err_from_is_err_and c.from_residual.result c.from_residual.ensures.1).1
    (no-altitude f (no-dash f c.args.entry c.in_default.not-Dash h) (signed-none f (c.numeral_of.ensures f h) c.in_err-altitude.ensures.ok_part c.signed_32.ensures))
