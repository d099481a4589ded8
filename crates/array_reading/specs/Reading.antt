-- READING octets into elements: what a reader that keeps its promise hands back is put into the array.
use Rattle.std.specs.Prelude.{◌≡◌, List, ◌++◌, ℕ, length, drop, Result}
use Rattle.ground.specs.Answers.{handed, outcome_of, value_or}
use Rattle.ground.specs.declared.refusals.Refusal.{Refusal}
use Rattle.layout.specs.declared.shape.Kind.TheVariants as shape
use Rattle.layout.specs.declared.shape.Shape.{Shape}
use Rattle.layout.specs.declared.velocity.VelocityKind.TheVariants as velocity
use Rattle.layout.specs.declared.velocity.Velocity.{Velocity}
use Rattle.layout.specs.Shapes.{ReadsShape, blank_shape}
use Rattle.layout.specs.Velocities.{ReadsVelocity, blank_velocity}
use Rattle.code_arrays.specs.Answers.{given_room}
use Rattle.code_arrays.specs.Shapes.{shape_elements}
use Rattle.code_arrays.specs.Velocities.{velocity_elements}

-- `left` is the reader's outcome, the room looked at
pub record ReadsInto (s before after : List ℕ) (left : Result Unit Refusal) : Type 0 where
  pub read : Result Shape Refusal
  pub promise : ReadsShape s read
  pub roomed : left ≡ given_room (outcome_of read) 61 (length before)
  pub array : after ≡ handed left (shape_elements (value_or (blank_shape shape.Nothing) read) ++ drop 61 before) before

pub record ReadsMotionInto (s before after : List ℕ) (left : Result Unit Refusal) : Type 0 where
  pub read : Result Velocity Refusal
  pub promise : ReadsVelocity s read
  pub roomed : left ≡ given_room (outcome_of read) 7 (length before)
  pub array : after ≡ handed left (velocity_elements (value_or (blank_velocity velocity.Nothing) read) ++ drop 7 before) before
