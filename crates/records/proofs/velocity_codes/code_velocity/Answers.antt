-- Each answer by its law.
use Rattle.std.proofs.lemmas.Result.{err_from_is_err_and}
use mathlib.Core.Path.{refl}
use borrow.Author.Rules.{rules}
use Rattle.ground.proofs.AnswerLaws.{shown, refuted}
use Rattle.records.proofs.VelocityLaws.{listed-kind, in-range, velocity-done, rest-refused, bearing-refused, uncertainty-refused, vertical-refused}
use mathlib.Core.Bool.{not}
use mathlib.Core.Path.{ap}
use Rattle.records.proofs.velocity_codes.code_velocity.Goals as goal

pub returns-then-not-is_zero : goal.returns-then-not-is_zero
returns-then-not-is_zero c =
    let q = c.args.quantities in
    rest-refused q _ (listed-kind q.kind c.in_default.not-Nothing) refl (refuted c.is_zero.result (ap not c.if-not-is_zero.true) c.is_zero.ensures)

pub returns-in_err-bearing : goal.returns-in_err-bearing
returns-in_err-bearing c =
    let q = c.args.quantities in
    let p = err_from_is_err_and c.from_residual.result c.from_residual.ensures.1 in
    rw (p.1, p.2) (bearing-refused q _ (listed-kind q.kind c.in_default.not-Nothing) (search rules))

pub returns-in_err-uncertainty : goal.returns-in_err-uncertainty
returns-in_err-uncertainty c =
    let q = c.args.quantities in
    let l = listed-kind q.kind c.in_default.not-Nothing in
    let r = in-range q l (shown c.is_zero.result (ap not c.if-not-is_zero.false) c.is_zero.ensures) c.in_ok-bearing.bearing c.in_ok-bearing.ensures in
    let p = err_from_is_err_and c.from_residual-in_err-uncertainty.result c.from_residual-in_err-uncertainty.ensures.1 in
    rw (p.1, p.2) (uncertainty-refused q _ l r (search rules))

pub returns-in_err-vertical_uncertainty : goal.returns-in_err-vertical_uncertainty
returns-in_err-vertical_uncertainty c =
    let q = c.args.quantities in
    let l = listed-kind q.kind c.in_default.not-Nothing in
    let r = in-range q l (shown c.is_zero.result (ap not c.if-not-is_zero.false) c.is_zero.ensures) c.in_ok-bearing.bearing c.in_ok-bearing.ensures in
    let p = err_from_is_err_and c.from_residual-in_err-vertical_uncertainty.result c.from_residual-in_err-vertical_uncertainty.ensures.1 in
    rw (p.1, p.2) (vertical-refused q _ l r (search rules))

pub returns : goal.returns
returns c =
    let q = c.args.quantities in
    let l = listed-kind q.kind c.in_default.not-Nothing in
    let b = c.in_ok-bearing.ensures in
    let r = in-range q l (shown c.is_zero.result (ap not c.if-not-is_zero.false) c.is_zero.ensures) c.in_ok-bearing.bearing b in
    velocity-done q c.in_ok-bearing.bearing c.horizontal_speed_code-horizontal_speed.result c.vertical_speed_code-vertical_speed.result c.in_ok-uncertainty.uncertainty c.in_ok-vertical_uncertainty.vertical_uncertainty l r b c.horizontal_speed_code-horizontal_speed.ensures c.vertical_speed_code-vertical_speed.ensures c.in_ok-uncertainty.ensures c.in_ok-vertical_uncertainty.ensures
