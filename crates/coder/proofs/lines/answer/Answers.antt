-- Past the first test there is a space, where the first field ends.
use mathlib.Core.Path.{ap}
use native.Mathlib.Omega.{arith}
use lib.ListN.{length}
use Rattle.text.proofs.LineFieldLaws.{unmarked}
use Rattle.coder.proofs.ReportLaws.{first_of}
use Rattle.coder.proofs.LineLaws.{too_few, no-verb}
use Rattle.coder.proofs.lines.answer.Goals as goal

pub returns-then-end-line : goal.returns-then-end-line
returns-then-end-line c = too_few c.args.line.now (omega (arith, ap length (unmarked c.field_end-end.ensures (omega arith))))

pub returns-in-Some : goal.returns-in-Some
returns-in-Some c =
    let first = first_of c.field_end-end.ensures (omega (arith, c.field_end-end.ensures.inside, c.if-end-line.false)) in
    c.named.ensures c.args.line.now _ first c.in-Some.ensures

pub returns-in-None : goal.returns-in-None
returns-in-None c =
    let first = first_of c.field_end-end.ensures (omega (arith, c.field_end-end.ensures.inside, c.if-end-line.false)) in
    no-verb first c.in-None.ensures.0 c.in-None.ensures.1
