-- After each turn the coordinates of one point more are put.
use mathlib.Core.Path.{◌≡◌}
use lib.ListN.{length}
use Rattle.array_reports.specs.Reports.{PutsPointQuantities}
use Rattle.array_reports.proofs.points.put_reported_points.Given as goal

abbrev pub invariant-loop-i : goal.invariant-loop-i
invariant-loop-i l = PutsPointQuantities l.codes l.i l.initial.out l.out × (length l.out ≡ length l.initial.out)
