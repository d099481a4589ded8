-- What the parts of the writer promise of a record, in the words of the layout table.
use Rattle.std.specs.Prelude.{◌≡◌, Bool, false, ℕ}
use Rattle.layout.specs.declared.velocity.Velocity.{Velocity}
use Rattle.layout.specs.Demands.{WriteAnswer}
use Rattle.layout.specs.Velocities.{velocity_value_of}
use Rattle.velocity_octets.specs.VelocityOctets.{velocity_rows_of}

abbrev pub VelocityAnswer : Velocity → ℕ → ℕ → Type 0
VelocityAnswer x = WriteAnswer (velocity_rows_of x) (velocity_value_of x)

pub record AreZero (down : Bool) (vertical uncertainty vertical_uncertainty : ℕ) : Type 0 where
  pub downs : down ≡ false
  pub verticals : vertical ≡ 0
  pub uncertainties : uncertainty ≡ 0
  pub vertical_uncertainties : vertical_uncertainty ≡ 0
