-- Eight fields, each of which says its part; where one says no coordinate, no request is said.
use Rattle.std.proofs.lemmas.Result.{err_from_is_err_and}
use native.Mathlib.Omega.{arith}
use Rattle.text.specs.LineFields.{field_at}
use Rattle.request_lines.proofs.request.request_in.Goals as goal

pub returns-in_err-coordinate_of : goal.returns-in_err-coordinate_of
returns-in_err-coordinate_of c =
    rw (err_from_is_err_and c.from_residual-in_err-coordinate_of.result c.from_residual-in_err-coordinate_of.ensures.1).1
    (λ q s. c.in_err-coordinate_of.ensures (field_at c.args.line.now 0) (c.in_ok-read_eight.ensures.each 0 (omega arith)) q.latitude.0 s.latitudes)

pub returns-in_err-coordinate_of-2 : goal.returns-in_err-coordinate_of-2
returns-in_err-coordinate_of-2 c =
    rw (err_from_is_err_and c.from_residual-in_err-coordinate_of-2.result c.from_residual-in_err-coordinate_of-2.ensures.1).1
    (λ q s. c.in_err-coordinate_of-2.ensures (field_at c.args.line.now 1) (c.in_ok-read_eight.ensures.each 1 (omega arith)) q.longitude.0 s.longitudes)

pub returns : goal.returns
returns c =
    let line = c.args.line.now in
    let e = c.in_ok-read_eight.ensures in
    record {
      eight = e.eight;
      latitudes = c.in_ok-coordinate_of.ensures (field_at line 0) (e.each 0 (omega arith));
      longitudes = c.in_ok-coordinate_of-2.ensures (field_at line 1) (e.each 1 (omega arith));
      altitudes = c.in_ok-altitude_of.ensures (field_at line 2) (e.each 2 (omega arith));
      areas = c.in_ok-horizontal_in.ensures line e;
      heights = c.in_ok-uncertainty_of.ensures (field_at line 6) (e.each 6 (omega arith));
      confidences = c.in_ok-confidence_of.ensures (field_at line 7) (e.each 7 (omega arith));
    }
