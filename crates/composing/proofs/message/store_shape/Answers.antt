-- A polygon's points, or a position and what follows it, after the first octet.
use Prim.Native.Nat.{ℕ, ◌*◌}
use mathlib.Core.Path.{◌≡◌, sym, ap, ◌∙◌}
use mathlib.Core.List.{List}
use borrow.Author.Rules.{rules}
use native.Mathlib.Omega.{arith}
use lib.ListN.{length-set}
use lib.Seq.{sets}
use Rattle.layout.specs.declared.shape.Kind.{Kind}
use Rattle.layout.specs.declared.shape.Kind.TheVariants.{Polygon}
use Rattle.layout.specs.Layout.{type_of}
use Rattle.code_arrays.specs.Shapes.{array_kind, record_in}
use Rattle.composing.specs.Composing.{rest_of}
use Rattle.composing.proofs.StoreLaws.{start-within, start-room, polygon-room}
use Rattle.composing.proofs.ElementStores.{count_small, used-within, rest-fits, parts-stored, points-stored}
use Rattle.composing.proofs.message.store_shape.Goals as goal

pub store_points-requires : goal.store_points-requires
store_points-requires c =
    let polygon : array_kind c.args.codes.now ≡ Polygon = sym c.requires.kind_value ∙ c.in-Polygon.is in
    let elements = c.args.codes.now in
    let e = polygon in
    record { in_bounds = search rules; count_bound = omega (arith, count_small elements c.requires.in_fields); count_in_bounds = simp length-set (polygon-room (record_in elements) _ c.requires.shape_storable e); used_within = used-within elements c.requires.in_fields e }

pub returns-in-Polygon : goal.returns-in-Polygon
returns-in-Polygon c =
    let first : c.first_octet-first.result ≡ 16 * type_of (array_kind c.args.codes.now) = c.first_octet-first.ensures ∙ ap (λ (k : Kind). 16 * type_of k) c.requires.kind_value in
    let polygon : array_kind c.args.codes.now ≡ Polygon = sym c.requires.kind_value ∙ c.in-Polygon.is in
    c.store_points.ensures
    ∙ points-stored c.args.codes.now c.args.out.now c.requires.shape_storable c.first_octet-first.result first polygon

pub put_position-requires : goal.put_position-requires
put_position-requires c =
    let other : array_kind c.args.codes.now ≡ Polygon → ⊥ = λ e. c.in_default.not-Polygon (c.requires.kind_value ∙ e) in
    let x = record_in c.args.codes.now in
    let s = c.requires.shape_storable in
    let o = other in
    record { at_in_bounds = simp length-set (start-room x _ s o); latitude_bound = rw c.outline_in-outline.ensures (start-within x _ s o).size }

pub put_rest-requires : goal.put_rest-requires
put_rest-requires c =
    let other : array_kind c.args.codes.now ≡ Polygon → ⊥ = λ e. c.in_default.not-Polygon (c.requires.kind_value ∙ e) in
    rest-fits c.args.codes.now c.requires.in_fields _ (rw c.put_position.auto.out (simp length-set c.requires.shape_storable.fits)) c.outline_in-outline.ensures other

pub returns : goal.returns
returns c =
    let first : c.first_octet-first.result ≡ 16 * type_of (array_kind c.args.codes.now) = c.first_octet-first.ensures ∙ ap (λ (k : Kind). 16 * type_of k) c.requires.kind_value in
    let other : array_kind c.args.codes.now ≡ Polygon → ⊥ = λ e. c.in_default.not-Polygon (c.requires.kind_value ∙ e) in
    c.put_rest.ensures
    ∙ ap (λ (l : List ℕ). sets l 7 (rest_of c.outline_in-outline.result)) c.put_position.ensures
    ∙ parts-stored c.args.codes.now c.args.out.now c.requires.shape_storable c.first_octet-first.result first c.outline_in-outline.ensures other
