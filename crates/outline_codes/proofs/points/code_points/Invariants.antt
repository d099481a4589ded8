-- Each point passed has its codes in the arrays.
use Rattle.std.proofs.Common.{◌≡◌, ℕ, ◌<◌, length}
use Rattle.outline_codes.proofs.PointLaws.{CodesAt}
use Rattle.outline_codes.proofs.points.code_points.Given as goal

abbrev pub invariant-loop-i : goal.invariant-loop-i
invariant-loop-i l = (length l.points.latitudes ≡ 15) × (length l.points.longitudes ≡ 15) × ((k : ℕ) → k < l.i → CodesAt l.latitudes l.longitudes l.n l.points.latitudes l.points.longitudes k)
