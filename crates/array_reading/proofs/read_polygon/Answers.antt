-- The elements before the points, the points and zeros are those of the polygon's record.
use mathlib.Core.Path.{refl, ap, ◌∙◌}
use mathlib.Core.List.{List}
use Prim.Native.Nat.{ℕ, ◌+◌, ◌*◌, ◌-◌}
use native.Mathlib.Omega.{arith}
use lib.ListN.{replicate}
use lib.Seq.{sets}
use Rattle.fetching.specs.Fetching.{latitudes_of, longitudes_of}
use Rattle.code_arrays.specs.Shapes.{point_elements}
use Rattle.array_reading.proofs.IntoLaws.{short-into, put-into, long_enough, polygon-read}
use Rattle.array_reading.proofs.read_polygon.Goals as goal

pub returns-then-codes-lt61 : goal.returns-then-codes-lt61
returns-then-codes-lt61 c = short-into _ (polygon-read c.requires.starts c.requires.message_form_answer) (omega arith)

pub put_read_points-requires-clause-n_in_bounds : goal.put_read_points-requires-clause-n_in_bounds
put_read_points-requires-clause-n_in_bounds c = long_enough c.requires.starts c.requires.message_form_answer

pub returns : goal.returns
returns c =
    let a = c.args in
    let n = a.n in
    let s = a.s.now in
    put-into _ (polygon-read c.requires.starts c.requires.message_form_answer) n refl (omega arith)
    (c.clear_from.ensures
    ∙ ap (λ (l : List ℕ). sets l (16 + 3 * n) (replicate (45 - 3 * n) 0))
    (c.put_read_points.ensures ∙ ap (λ (l : List ℕ). sets l 16 (point_elements (latitudes_of n s) (longitudes_of n s) n)) (rw c.blank_shape-outline.ensures at c.put_singles.ensures)))
