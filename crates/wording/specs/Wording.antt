-- THE TEXT OF A MESSAGE, document 01, "The lister": the answer; on 0 also the type and the reported quantities.
use Rattle.std.specs.Prelude.{cond, List, ℕ, zero, suc, eqb}
use Rattle.text.specs.Text.{decimal}
use Rattle.layout.specs.Shapes.{rows_in, shape_in}
use Rattle.layout.specs.Velocities.{velocity_rows_in, velocity_in}
use Rattle.layout.specs.ReadNumbers.{read_number}
use Rattle.wording.specs.ShapeTexts.{shape_text}
use Rattle.wording.specs.VelocityTexts.{velocity_text}

-- the record's text on 0, else the number of the refusal
abbrev pub answer_text : ℕ → List ℕ → List ℕ
answer_text n text = cond (eqb n 0) text (decimal n)

-- the text of a message of a kind: 0 shape, 1 velocity
unfoldable pub message_text : ℕ → List ℕ → List ℕ
message_text zero m = answer_text (read_number (rows_in m) m) (shape_text (shape_in m))
message_text (suc kind) m = answer_text (read_number (velocity_rows_in m) m) (velocity_text (velocity_in m))
