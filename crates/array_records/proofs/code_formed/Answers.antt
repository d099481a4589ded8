-- Each test of the outline is one of the quantities; the elements before the points, the points and zeros are those of the record.
use Rattle.std.specs.Prelude.{Ok}
use Rattle.std.proofs.lemmas.Result.{err_from_is_err_and}
use mathlib.Core.Path.{◌≡◌, refl, ap, ◌∙◌}
use mathlib.Core.List.{List}
use Prim.Native.Nat.{ℕ, ◌+◌, ◌*◌, ◌-◌, ◌≤◌}
use native.Mathlib.Omega.{arith}
use lib.IntN.{ℤ}
use lib.ListN.{replicate}
use lib.Seq.{sets}
use borrow.Author.Rules.{rules}
use borrow.Author.Tests.{not-true}
use Rattle.ground.specs.Answers.{Decides}
use Rattle.ground.proofs.AnswerLaws.{shown, refuted}
use Rattle.quantities.specs.declared.shape.ShapeQuantities.{ShapeQuantities}
use Rattle.quantities.specs.Promises.{QuantitiesInRange}
use Rattle.quantities.specs.Shapes.{quantity_at, quantity_rows, CodesShape}
use Rattle.outline_codes.specs.Kinds.{uses_of}
use Rattle.outline_codes.specs.Unused.{RestZero}
use Rattle.outline_codes.specs.Ranges.{RangedCodes}
use Rattle.outline_codes.specs.Sizes.{SizeCodes}
use Rattle.outline_codes.specs.Outlines.{Outlined}
use Rattle.outline_codes.specs.declared.unused.Uses.{Uses}
use Rattle.outline_codes.specs.declared.ranges.Ranged.{Ranged}
use Rattle.outline_codes.specs.declared.sizes.Sizes.{Sizes}
use Rattle.layout.specs.declared.shape.Shape.{Shape}
use Rattle.records.specs.Kinds.{Formed}
use Rattle.records.specs.Records.{with_points}
use Rattle.records.proofs.ShapeLaws.{in-range, rest-zero, ranges-kept, points_kept, shape-done}
use Rattle.code_arrays.specs.Shapes.{point_elements}
use Rattle.quantity_arrays.specs.Shapes.{quantities_in, quantity_outline_in}
use Rattle.array_records.specs.Records.{UsedCodes, CodedPoints, PointsInRange}
use Rattle.array_records.proofs.PointLaws.{points_of, points-codes, codes-used}
use Rattle.array_records.proofs.OutlineLaws.{rest-zero-in, rest-zero-out, ranged-in, ranges-out, sizes-in, sizes-out, outlined-in, few-points}
use Rattle.array_records.proofs.IntoLaws.{out-into, large-into, short-into, put-into}
use mathlib.Core.Bool.{Bool, true, not}
use Rattle.array_records.proofs.code_formed.Goals as goal

-- WHAT THE TESTS THAT ARE PASSED SAY of all quantities, not of the outline alone
module _ (elements : List ℤ) {outline : ShapeQuantities} (same : outline ≡ quantity_outline_in elements) where
  module _ {uses : Uses} (used : uses ≡ uses_of outline.kind) {z : Bool} (zero : z ≡ true) (zeros : Decides z (RestZero uses outline)) where
    rest : RestZero (uses_of (quantities_in elements).kind) (quantities_in elements)
    rest = rest-zero-in elements (shown z (ap not zero) (rw (used, same) at zeros))

    few : Formed (quantities_in elements) → outline.count ≤ 15
    few formed = rw same (few-points (quantities_in elements).kind (quantities_in elements).count formed.counted rest.counts)

  points : {b : Bool} → b ≡ true → PointsInRange elements outline.count b → CodedPoints elements (quantities_in elements).count
  points inside p = rw (inside, same) at p

  module _ (r : Ranged) {uses : Uses} (used : uses ≡ uses_of outline.kind) (codes : RangedCodes uses.arc outline r) where
    ranged : RangedCodes (uses_of (quantities_in elements).kind).arc (quantities_in elements) r
    ranged = ranged-in elements (rw (used, same) at codes)

    kept : RestZero (uses_of (quantities_in elements).kind) (quantities_in elements) → outline.semi_minor.0 ≤ outline.semi_major.0 → CodedPoints elements (quantities_in elements).count
        → QuantitiesInRange (quantity_rows (quantities_in elements)) (quantities_in elements).count (quantity_at (quantities_in elements))
    kept idle axes p = in-range (quantities_in elements) idle (rw same at axes) r ranged p.kept

    -- the record with any codes of its points
    coded : (s : Sizes) (x : Shape) → RestZero (uses_of (quantities_in elements).kind) (quantities_in elements) → outline.semi_minor.0 ≤ outline.semi_major.0 → CodedPoints elements (quantities_in elements).count
        → SizeCodes outline s → Outlined outline r s x → Formed (quantities_in elements) → (u : UsedCodes elements (quantities_in elements).count)
        → CodesShape (quantities_in elements) (Ok (with_points x (points_of u)))
    coded s x idle axes p sized outlined formed u =
        shape-done (quantities_in elements) r s (points_of u) x (kept idle axes p) ranged (sizes-in elements (rw same at sized)) (points-codes u p.kept) (outlined-in elements (rw same at outlined)) formed

pub returns-then-not-is_zero : goal.returns-then-not-is_zero
returns-then-not-is_zero c = out-into c.args.given.now c.requires.formed c.requires.shape_arrives _ refl (λ r. refuted c.is_zero.result (ap not c.if-not-is_zero.true) (rw (c.used_by-uses.ensures, c.requires.outline_value) at c.is_zero.ensures) (rest-zero-out c.args.given.now (rest-zero (quantities_in c.args.given.now) r)))

pub returns-then-outline : goal.returns-then-outline
returns-then-outline c = out-into c.args.given.now c.requires.formed c.requires.shape_arrives _ refl (λ r. let less = rw c.requires.outline_value at c.if-outline.true in absurd (omega (arith, r.axes)))

pub returns-in_err-ranged : goal.returns-in_err-ranged
returns-in_err-ranged c =
    let out = rw (c.used_by-uses.ensures, c.requires.outline_value) at c.in_err-ranged.ensures in
    let p = err_from_is_err_and c.from_residual.result c.from_residual.ensures.1 in
    rw (p.1, p.2) (out-into c.args.given.now c.requires.formed c.requires.shape_arrives _ out.0 (λ r. out.1 (ranges-out c.args.given.now (ranges-kept (quantities_in c.args.given.now) r))))

pub in_range-requires : goal.in_range-requires
in_range-requires c = record { in_bounds = c.requires.in_bounds; n_bound = few c.args.given.now c.requires.outline_value c.used_by-uses.ensures c.if-not-is_zero.false c.is_zero.ensures c.requires.formed }

pub returns-then-not-in_range : goal.returns-then-not-in_range
returns-then-not-in_range c = out-into c.args.given.now c.requires.formed c.requires.shape_arrives _ refl (λ r. (rw (not-true c.in_range.result (ap not c.if-not-in_range.true), c.requires.outline_value) at c.in_range.ensures) (points_kept (quantities_in c.args.given.now) r))

pub returns-in_err-sizes : goal.returns-in_err-sizes
returns-in_err-sizes c =
    let same = c.requires.outline_value in
    let idle = rest c.args.given.now c.requires.outline_value c.used_by-uses.ensures c.if-not-is_zero.false c.is_zero.ensures in
    let p = points c.args.given.now c.requires.outline_value c.if-not-in_range.false c.in_range.ensures in
    let large = rw same at c.in_err-sizes.ensures in
    let e = err_from_is_err_and c.from_residual-in_err-sizes.result c.from_residual-in_err-sizes.ensures.1 in
    rw (e.1, e.2)
    (large-into c.args.given.now c.requires.formed c.requires.shape_arrives _ large.0 (kept c.args.given.now same c.in_ok-ranged.ranged c.used_by-uses.ensures c.in_ok-ranged.ensures idle c.if-outline.false p)
    (λ s. large.1 (sizes-out c.args.given.now s)))

pub returns-then-codes-lt61 : goal.returns-then-codes-lt61
returns-then-codes-lt61 c =
    let same = c.requires.outline_value in
    let idle = rest c.args.given.now c.requires.outline_value c.used_by-uses.ensures c.if-not-is_zero.false c.is_zero.ensures in
    let p = points c.args.given.now c.requires.outline_value c.if-not-in_range.false c.in_range.ensures in
    short-into c.args.given.now c.requires.formed c.requires.shape_arrives (with_points c.outlined-shape.result (points_of p.codes))
    (coded c.args.given.now same c.in_ok-ranged.ranged c.used_by-uses.ensures c.in_ok-ranged.ensures c.in_ok-sizes.sizes c.outlined-shape.result idle c.if-outline.false p c.in_ok-sizes.ensures c.outlined-shape.ensures c.requires.formed p.codes) (omega arith)

pub put_coded_points-requires : goal.put_coded_points-requires
put_coded_points-requires c =
    let p = points c.args.given.now c.requires.outline_value c.if-not-in_range.false c.in_range.ensures in
    record { in_bounds = search rules; in_bounds_2 = c.requires.in_bounds; n_bound = few c.args.given.now c.requires.outline_value c.used_by-uses.ensures c.if-not-is_zero.false c.is_zero.ensures c.requires.formed; used_kept = rw c.requires.outline_value (codes-used p.codes) }

pub returns : goal.returns
returns c =
    let same = c.requires.outline_value in
    let idle = rest c.args.given.now c.requires.outline_value c.used_by-uses.ensures c.if-not-is_zero.false c.is_zero.ensures in
    let p = points c.args.given.now c.requires.outline_value c.if-not-in_range.false c.in_range.ensures in
    let n = (quantities_in c.args.given.now).count in
    let m = c.args.outline.count in
    let put = rw same at c.put_coded_points.ensures in
    let u = put.codes in
    put-into c.args.given.now c.requires.formed c.requires.shape_arrives (with_points c.outlined-shape.result (points_of u))
    (coded c.args.given.now same c.in_ok-ranged.ranged c.used_by-uses.ensures c.in_ok-ranged.ensures c.in_ok-sizes.sizes c.outlined-shape.result idle c.if-outline.false p c.in_ok-sizes.ensures c.outlined-shape.ensures c.requires.formed u) n m (ap (λ (o : ShapeQuantities). o.count) same) u.ended (omega arith)
    (c.clear_from.ensures
    ∙ ap (λ (l : List ℕ). sets l (16 + 3 * m) (replicate (45 - 3 * m) 0)) (put.put ∙ ap (λ (l : List ℕ). sets l 16 (point_elements u.latitudes u.longitudes n)) c.put_singles.ensures))
