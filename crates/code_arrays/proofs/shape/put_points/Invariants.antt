-- After i turns the elements of i points are put.
use mathlib.Core.Path.{◌≡◌}
use lib.ListN.{length}
use lib.Seq.{sets}
use Rattle.code_arrays.specs.Shapes.{point_elements}
use Rattle.code_arrays.proofs.shape.put_points.Given as goal

abbrev pub invariant-loop-i : goal.invariant-loop-i
invariant-loop-i l = (l.out ≡ sets l.initial.out 16 (point_elements l.latitudes l.longitudes l.i)) × (length l.out ≡ length l.initial.out)
