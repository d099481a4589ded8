-- A point more at each turn.
use Rattle.std.proofs.Common.{◌*◌}
use Rattle.text.specs.Text.{PutsWithin}
use Rattle.wording.specs.ShapeTexts.{points_text}
use Rattle.wording.proofs.shape_text.put_points.Given as goal

abbrev pub invariant-loop-i : goal.invariant-loop-i
invariant-loop-i l = PutsWithin (42 * l.i) l.initial.out l.at (points_text l.latitudes l.longitudes l.i) l.out l.next
