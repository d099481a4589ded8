-- Nothing is read, and there is no line.
use Rattle.streaming.proofs.input.no_input.Goals as goal

pub returns : goal.returns
returns c = rw c.unread-source.ensures
