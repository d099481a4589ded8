-- Each turn reports one more.
use native.Mathlib.Omega.{arith}
use mathlib.Core.Path.{◌≡◌}
use borrow.Author.Rules.{rules}
use Rattle.std.proofs.lemmas.List.{get_or_default}
use Rattle.field_reports.proofs.FillLaws.{one_more}
use Rattle.reports.proofs.points.reported.Goals as goal

pub loop-i-preserved : goal.loop-i-preserved
loop-i-preserved g c = λ none.
    one_more _ c.loop-i.i c.loop-i.reported _ (c.loop-i.invariant none) (search rules)
    (rw (get_or_default c.args.codes c.loop-i.i _ none (search rules)) at c.report.ensures)

pub returns : goal.returns
returns g c = λ none. let e : c.loop-i.i ≡ c.args.n = omega arith in rw e at (c.loop-i.invariant none)
