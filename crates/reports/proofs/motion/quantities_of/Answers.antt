-- Each code is reported as its field's codes are.
use mathlib.Core.Path.{refl}
use Rattle.reports.proofs.MotionLaws.{motion-reported}
use Rattle.reports.proofs.motion.quantities_of.Goals as goal

pub returns : goal.returns
returns c =
    motion-reported c.args.velocity c.requires _ c.bearing.ensures c.reported_horizontal_speed.ensures c.reported_vertical_speed.ensures c.reported_uncertainty_speed-uncertainty.ensures c.reported_uncertainty_speed-vertical_uncertainty.ensures refl
