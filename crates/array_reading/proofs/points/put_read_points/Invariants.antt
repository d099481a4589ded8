-- After i turns the elements of i points are put.
use mathlib.Core.Path.{◌≡◌}
use lib.ListN.{length}
use lib.Seq.{sets}
use Rattle.fetching.specs.Fetching.{latitudes_of, longitudes_of}
use Rattle.code_arrays.specs.Shapes.{point_elements}
use Rattle.array_reading.proofs.points.put_read_points.Given as goal

abbrev pub invariant-loop-i : goal.invariant-loop-i
invariant-loop-i l = (l.out ≡ sets l.initial.out 16 (point_elements (latitudes_of l.n l.s) (longitudes_of l.n l.s) l.i)) × (length l.out ≡ length l.initial.out)
