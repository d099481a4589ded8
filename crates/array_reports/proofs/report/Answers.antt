-- A record that isn't taken is refused for the same reason.
use Rattle.std.proofs.lemmas.Result.{err_from_is_err_and}
use Rattle.array_reports.proofs.ReportLaws.{report-refused}
use Rattle.array_reports.proofs.report.Goals as goal

pub returns-in_err-outcome : goal.returns-in_err-outcome
returns-in_err-outcome c =
    let p = err_from_is_err_and c.from_residual.result c.from_residual.ensures.1 in
    rw (p.1, p.2) (report-refused c.args.codes.now _ c.in_err-outcome.ensures)
