-- What is put into the elements, and its number.
use Rattle.library.proofs.CallLaws.{motion-said}
use Rattle.library.proofs.velocity_calls.read_velocity.Goals as goal

pub returns : goal.returns
returns c = motion-said c.read_velocity-read.ensures (rw c.and.ensures at c.answer.ensures)
