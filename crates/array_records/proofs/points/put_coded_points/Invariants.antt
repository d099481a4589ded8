-- After i turns the codes of i points are put; each point has its codes, since it is in range.
use mathlib.Core.Path.{◌≡◌}
use lib.ListN.{length}
use Rattle.array_records.specs.Records.{PutsPointCodes}
use Rattle.array_records.proofs.points.put_coded_points.Given as goal

abbrev pub invariant-loop-i : goal.invariant-loop-i
invariant-loop-i l = PutsPointCodes l.given l.i l.initial.out l.out × (length l.out ≡ length l.initial.out)
