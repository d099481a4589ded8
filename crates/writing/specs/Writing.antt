-- What writing a record answers, given room for its message.
use Rattle.std.specs.Prelude.{ℕ}
use Rattle.layout.specs.declared.shape.Shape.{Shape}
use Rattle.layout.specs.Rows.{length_of}
use Rattle.layout.specs.Demands.{WriteAnswer}
use Rattle.layout.specs.Shapes.{rows_of, value_of}

abbrev pub ShapeAnswer : Shape → ℕ → Type 0
ShapeAnswer x = WriteAnswer (rows_of x) (value_of x) (length_of (rows_of x))
