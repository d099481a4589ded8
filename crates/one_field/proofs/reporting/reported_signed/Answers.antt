-- `one_field::reporting::reported_signed` meets its contract: a number that its code can't hold is refused, and a vertical speed is told as it is.
use mathlib.Core.Path.{◌≡◌, refl, ap}
use native.Mathlib.Omega.{arith}
use Rattle.std.specs.Prelude.{Ok}
use Rattle.ground.specs.Answers.{done, refused}
use Rattle.one_field.proofs.reporting.reported_signed.Goals as goal

pub returns-in_default : goal.returns-in_default
returns-in_default c = rw c.in-Altitude.is (record { said = refused 7; promise = (refl, omega (arith, c.in_default.ensures)); told = refl })

pub returns-in_default-try_from : goal.returns-in_default-try_from
returns-in_default-try_from c = rw c.in-VerticalSpeed.is (record { said = refused 7; promise = (refl, omega (arith, c.in_default-try_from.ensures)); told = refl })

pub returns-in-Ok-try_from : goal.returns-in-Ok-try_from
returns-in-Ok-try_from c =
    let e : c.in-Ok-try_from.n ≡ c.args.n = c.in-Ok-try_from.ensures.1 in
    rw (c.in-VerticalSpeed.is, ← e)
    (record { said = done c.reported_vertical_speed.result; promise = c.reported_vertical_speed.ensures; told = ap Ok c.from.ensures })
