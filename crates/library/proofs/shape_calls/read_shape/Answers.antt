-- What is put into the elements, and its number.
use Rattle.library.proofs.CallLaws.{read-said}
use Rattle.library.proofs.shape_calls.read_shape.Goals as goal

pub returns : goal.returns
returns c = read-said c.read_shape-read.ensures (rw c.and.ensures at c.answer.ensures)
