-- None of the places that the loop has passed is a space.
use Rattle.text.specs.Marks.{NoMark}
use Rattle.text.proofs.marks.field_end.Given as goal

abbrev pub invariant-loop-place : goal.invariant-loop-place
invariant-loop-place l = NoMark 32 l.line l.from l.place
