-- After i turns the record has i points, and zeros after them.
use mathlib.Core.Path.{◌≡◌}
use Rattle.layout.specs.declared.shape.Kind.TheVariants.{Polygon}
use Rattle.layout.specs.Shapes.{blank_shape}
use Rattle.fetching.specs.Fetching.{pointed, latitudes_of, longitudes_of}
use Rattle.fetching.proofs.points.polygon.Given as goal

abbrev pub invariant-loop-i : goal.invariant-loop-i
invariant-loop-i l = l.shape ≡ pointed (blank_shape Polygon) l.n (latitudes_of l.i l.s) (longitudes_of l.i l.s)
