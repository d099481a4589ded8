-- After i turns the first i are reported, and the others zero.
use Rattle.std.specs.Prelude.{get_or}
use Rattle.field_reports.specs.Points.{Filled}
use Rattle.reports.proofs.points.reported.Given as goal

abbrev pub invariant-loop-i : goal.invariant-loop-i
invariant-loop-i g l = (none : _) → Filled (λ i x. goal.F-post g l.report (get_or l.codes i none) x) l.i l.reported
