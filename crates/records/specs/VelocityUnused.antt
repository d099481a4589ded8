-- Which quantities a kind of velocity uses, from the layout table, and that the others are zero.
use Rattle.std.specs.Prelude.{Bool, ltb}
use Rattle.fields.specs.Fields as field
use Rattle.layout.specs.declared.velocity.VelocityKind.{VelocityKind}
use Rattle.layout.specs.Layout.{MessageField, vertical_speed, speed_uncertainty, vertical_uncertainty, velocity_rows}
use Rattle.layout.specs.Rows.{width_of}
use Rattle.quantities.specs.Places.{zero_quantity}
use Rattle.quantities.specs.declared.velocity.VelocityQuantities.{VelocityQuantities}
use Rattle.outline_codes.specs.Unused.{Idle}
use Rattle.records.specs.declared.velocity_zeros.MotionUses.{MotionUses}

abbrev pub motion_uses : VelocityKind → MessageField → Bool
motion_uses k f = ltb 0 (width_of (velocity_rows k) f)

abbrev pub motion_uses_of : VelocityKind → MotionUses
motion_uses_of k = record {
  vertical_speed = motion_uses k vertical_speed;
  uncertainty = motion_uses k speed_uncertainty;
  vertical_uncertainty = motion_uses k vertical_uncertainty;
}

pub record MotionRestZero (q : VelocityQuantities) : Type 0 where
  pub vertical_speeds : Idle (motion_uses_of q.kind).vertical_speed q.vertical_speed (zero_quantity field.vertical_speed)
  pub uncertainties : Idle (motion_uses_of q.kind).uncertainty q.uncertainty (zero_quantity field.uncertainty_speed)
  pub vertical_uncertainties : Idle (motion_uses_of q.kind).vertical_uncertainty q.vertical_uncertainty (zero_quantity field.uncertainty_speed)
