-- The outline's quantities are put, then those of the points, then zeros.
use Rattle.array_reports.proofs.ReportLaws.{few-points, points-within, held, report-too-short, report-put}
use borrow.Author.Rules.{rules}
use Rattle.array_reports.proofs.report_taken.Goals as goal

pub returns-then-out-lt44 : goal.returns-then-out-lt44
returns-then-out-lt44 c =
    report-too-short c.args.codes.now c.requires.record_answer (search rules)

pub outline-requires : goal.outline-requires
outline-requires c =
    held c.args.codes.now c.requires.record_answer c.outline_in-outline.ensures

pub put_reported_points-requires-clause-n_bound : goal.put_reported_points-requires-clause-n_bound
put_reported_points-requires-clause-n_bound c = few-points c.args.codes.now c.requires.record_answer

pub put_reported_points-requires-clause-used_within : goal.put_reported_points-requires-clause-used_within
put_reported_points-requires-clause-used_within c = points-within c.args.codes.now c.requires.record_answer _

pub clear_from-requires-clause-n_bound : goal.clear_from-requires-clause-n_bound
clear_from-requires-clause-n_bound c = few-points c.args.codes.now c.requires.record_answer

pub returns : goal.returns
returns c =
    report-put c.args.codes.now c.requires.record_answer c.outline_in-outline.ensures c.outline.result c.outline.ensures c.args.out.now (search rules)
    (rw c.put_singles.ensures at c.put_reported_points.ensures)
    c.clear_from.ensures
