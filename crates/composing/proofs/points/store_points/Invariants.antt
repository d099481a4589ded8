-- Six octets more at each turn, from the three elements of a point.
use mathlib.Core.Path.{◌≡◌}
use lib.ListN.{length}
use lib.Seq.{sets}
use Rattle.layout.specs.Layout.{count}
use Rattle.code_arrays.specs.CodeNumbers.{element_at}
use Rattle.code_arrays.specs.Shapes.{value_in, record_in}
use Rattle.composing.specs.Composing.{positions}
use Rattle.composing.proofs.points.store_points.Given as goal

abbrev pub invariant-loop-i : goal.invariant-loop-i
invariant-loop-i l = (element_at l.codes 1 ≡ value_in l.codes count) × (l.out ≡ sets l.initial.out 1 (positions (record_in l.codes).latitudes (record_in l.codes).longitudes l.i)) × (length l.out ≡ length l.initial.out)
