-- One answer of `shape_outcome`: its promise is the writer's answer with the room of its own message, which leaves one number.
use Rattle.std.specs.Prelude.{Result}
use mathlib.Core.Path.{◌≡◌}
use Rattle.ground.specs.Answers.{outcome_number}
use Rattle.ground.specs.declared.refusals.Refusal.{Refusal}
use Rattle.layout.specs.declared.shape.Shape.{Shape}
use Rattle.layout.specs.Rows.{length_of}
use Rattle.layout.specs.Shapes.{rows_of, value_of}
use Rattle.layout.proofs.OneMessage.{write-outcome-one}
use Rattle.writing.specs.Writing.{ShapeAnswer}

pub shape-outcome-one : (x : Shape) (r q : Result Unit Refusal) → ShapeAnswer x (outcome_number r) → ShapeAnswer x (outcome_number q) → r ≡ q
shape-outcome-one x = write-outcome-one (rows_of x) (value_of x) (length_of (rows_of x))
