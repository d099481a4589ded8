-- Each answer by its law.
use Rattle.std.proofs.lemmas.Result.{err_from_is_err_and}
use native.Mathlib.Omega.{arith}
use Rattle.ground.proofs.AnswerLaws.{shown, refuted}
use Rattle.outline_codes.proofs.PointLaws.{codes-kept}
use Rattle.records.proofs.ShapeLaws.{in-range, rest-zero, ranges-kept, points_kept, shape-done, out_of_range, too_large}
use mathlib.Core.Bool.{not}
use mathlib.Core.Path.{refl, ap}
use Rattle.records.proofs.shapes.coded.Goals as goal

pub returns-then-not-is_zero : goal.returns-then-not-is_zero
returns-then-not-is_zero c =
    let q = c.args.quantities in
    out_of_range q c.requires _ refl (λ r. refuted c.is_zero.result (ap not c.if-not-is_zero.true) (rw c.used_by-uses.ensures at c.is_zero.ensures) (rest-zero q r))

pub returns-in_err-ranged : goal.returns-in_err-ranged
returns-in_err-ranged c =
    let q = c.args.quantities in
    let out = rw c.used_by-uses.ensures at c.in_err-ranged.ensures in
    let p = err_from_is_err_and c.from_residual.result c.from_residual.ensures.1 in
    rw (p.1, p.2) (out_of_range q c.requires _ out.0 (λ r. out.1 (ranges-kept q r)))

pub returns-in_err-points : goal.returns-in_err-points
returns-in_err-points c =
    let q = c.args.quantities in
    let out = c.in_err-points.ensures in
    let p = err_from_is_err_and c.from_residual-in_err-points.result c.from_residual-in_err-points.ensures.1 in
    rw (p.1, p.2) (out_of_range q c.requires _ out.0 (λ r. out.1 (points_kept q r)))

pub returns-in_err-sizes : goal.returns-in_err-sizes
returns-in_err-sizes c =
    let q = c.args.quantities in
    let z = shown c.is_zero.result (ap not c.if-not-is_zero.false) (rw c.used_by-uses.ensures at c.is_zero.ensures) in
    let ranged = rw c.used_by-uses.ensures at c.in_ok-ranged.ensures in
    let r = in-range q z (omega (arith, c.if-quantities.false)) c.in_ok-ranged.ranged ranged (λ i. codes-kept (c.in_ok-points.ensures.each i)) in
    let out = c.in_err-sizes.ensures in
    let p = err_from_is_err_and c.from_residual-in_err-sizes.result c.from_residual-in_err-sizes.ensures.1 in
    rw (p.1, p.2) (too_large q c.requires _ out.0 r out.1)

pub returns : goal.returns
returns c =
    let q = c.args.quantities in
    let z = shown c.is_zero.result (ap not c.if-not-is_zero.false) (rw c.used_by-uses.ensures at c.is_zero.ensures) in
    let ranged = rw c.used_by-uses.ensures at c.in_ok-ranged.ensures in
    let r = in-range q z (omega (arith, c.if-quantities.false)) c.in_ok-ranged.ranged ranged (λ i. codes-kept (c.in_ok-points.ensures.each i)) in
    shape-done q c.in_ok-ranged.ranged c.in_ok-sizes.sizes c.in_ok-points.points c.outlined-shape.result r ranged c.in_ok-sizes.ensures c.in_ok-points.ensures c.outlined-shape.ensures c.requires
