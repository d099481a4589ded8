-- `one_field::reporting::reported_word` meets its contract: a number above 16 bits is refused, and what a reporter that never refuses says is told as it is.
use mathlib.Core.Path.{◌≡◌, ap}
use native.Mathlib.Omega.{arith}
use Rattle.std.specs.Prelude.{Ok}
use Rattle.ground.specs.Answers.{done}
use Rattle.one_field.proofs.AboveLaws.{above_word_lem}
use Rattle.one_field.proofs.reporting.reported_word.Goals as goal

pub returns-in_default : goal.returns-in_default
returns-in_default c = rw c.above_word.ensures (above_word_lem c.args.field c.args.n (omega (arith, c.in_default.ensures)))

pub returns-in-InnerRadius : goal.returns-in-InnerRadius
returns-in-InnerRadius c =
    let e : c.in-Ok.n ≡ c.args.n = c.in-Ok.ensures.1 in
    rw (c.in-InnerRadius.is, ← e)
    (record { said = done c.reported_inner_radius.result; promise = c.reported_inner_radius.ensures; told = ap Ok c.from.ensures })

pub returns-in-HorizontalSpeed : goal.returns-in-HorizontalSpeed
returns-in-HorizontalSpeed c =
    let e : c.in-Ok.n ≡ c.args.n = c.in-Ok.ensures.1 in
    rw (c.in-HorizontalSpeed.is, ← e)
    (record { said = done c.reported_horizontal_speed.result; promise = c.reported_horizontal_speed.ensures; told = ap Ok c.from-in-HorizontalSpeed.ensures })
