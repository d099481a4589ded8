-- The head; then the count and the points, or the position and what follows it.
use Prim.Native.Nat.{suc}
use mathlib.Core.Path.{ap, ◌∙◌}
use native.Mathlib.Omega.{arith}
use Rattle.layout.specs.Layout.{type_of}
use Rattle.quantities.specs.Places as place
use Rattle.quantities.proofs.HeldLaws.{shape-held, count_held, taken}
use Rattle.wording.specs.Numbers.{head_text}
use Rattle.text.proofs.WithinLaws.{after}
use Rattle.wording.proofs.NumberLaws.{worded}
use Rattle.wording.proofs.ShapeTextLaws.{fixed-text, points-text}
use Rattle.wording.proofs.shape_text.put_shape.Goals as goal

pub put_points-requires : goal.put_points-requires
put_points-requires c =
    let x = c.args.shape in
    let t = c.requires.takes_shape in
    record { at_in_bounds = omega (arith, c.put_head-a.ensures.within, c.put_head-a.auto.out, c.put_natural-b.ensures.within, c.put_natural-b.auto.out, c.requires.at_in_bounds); n_bound = count_held x t; points_held = λ i. (shape-held x t (place.latitude (suc i)), shape-held x t (place.longitude (suc i))) }

pub returns-in-Polygon : goal.returns-in-Polygon
returns-in-Polygon c =
    let e = c.in-Polygon.is in
    let head = worded {n = 22} (omega arith) (ap head_text (c.from.ensures ∙ ap type_of e)) c.put_head-a.ensures in
    worded (omega arith) (points-text c.args.shape e) (after head (after c.put_natural-b.ensures c.put_points.ensures))

pub put_position-b-requires : goal.put_position-b-requires
put_position-b-requires c =
    let x = c.args.shape in
    let t = c.requires.takes_shape in
    record { at_in_bounds = omega (arith, c.put_head-a.ensures.within, c.put_head-a.auto.out, c.requires.at_in_bounds); latitude_bound = shape-held x t (place.latitude 0); longitude_bound = shape-held x t (place.longitude 0) }

pub returns : goal.returns
returns c =
    let x = c.args.shape in
    let head = worded {n = 22} (omega arith) (ap head_text c.from.ensures) c.put_head-a.ensures in
    let fixed = fixed-text x (taken x c.requires.takes_shape).listed c.in_default.not-Polygon in
    worded (omega arith) fixed (after head (after c.put_position-b.ensures c.put_rest.ensures))
