-- One answer of `velocity_outcome` and of `of_message`: their demands are looked at in order, which leaves one number.
use Rattle.std.specs.Prelude.{Result}
use Prim.Native.Nat.{ℕ}
use mathlib.Core.Path.{◌≡◌}
use Rattle.ground.specs.Answers.{outcome_number}
use Rattle.ground.proofs.AnswerLaws.{unless-one, zero_one, promised-one}
use Rattle.ground.specs.declared.refusals.Refusal.{Refusal}
use Rattle.layout.specs.declared.velocity.Velocity.{Velocity}
use Rattle.layout.specs.declared.velocity.VelocityKind.{VelocityKind}
use Rattle.layout.specs.Velocities.{velocity_value_of}
use Rattle.layout.proofs.OneMessage.{write-outcome-one}
use Rattle.velocity_octets.specs.VelocityOctets.{velocity_rows_of}
use Rattle.velocities.specs.Reading.{VelocityFormAnswer}
use Rattle.velocities.specs.Writing.{VelocityAnswer}

pub velocity-outcome-one : (x : Velocity) (room : ℕ) (r q : Result Unit Refusal) → VelocityAnswer x room (outcome_number r) → VelocityAnswer x room (outcome_number q) → r ≡ q
velocity-outcome-one x = write-outcome-one (velocity_rows_of x) (velocity_value_of x)

pub velocity-form-one : (k : VelocityKind) (octets : ℕ) (r q : Result Unit Refusal) → VelocityFormAnswer k octets (outcome_number r) → VelocityFormAnswer k octets (outcome_number q) → r ≡ q
velocity-form-one k octets = promised-one (VelocityFormAnswer k octets) (unless-one _ 2 _ (unless-one _ 3 _ zero_one))
