-- `quantity::with_bit` meets its contract: the sign is above 1, or it is a bit.
use native.Mathlib.Omega.{arith}
use Rattle.coder.proofs.ReportLaws.{no_sign, signed-reported}
use Rattle.coder.proofs.report_text.with_bit.Goals as goal

pub returns-then-sign-gt1 : goal.returns-then-sign-gt1
returns-then-sign-gt1 c = rw c.no_code.ensures (λ first rest m i. no_sign c.args.field first rest (omega arith) m i)

pub returns : goal.returns
returns c =
    let given = c.args in
    let capped = c.capped in
    let reported-signed = c.reported_signed in
    let line-of-quantity = c.line_of_quantity in
    λ first rest m i. signed-reported first rest (omega arith) m i reported-signed.result line-of-quantity.ensures given.field (rw capped.ensures at reported-signed.ensures)
