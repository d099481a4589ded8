-- By whether the text ended the run.
use Rattle.lister.proofs.over.Goals as goal

pub returns-then-ended : goal.returns-then-ended
returns-then-ended c = rw c.if-ended.true

pub returns : goal.returns
returns c = rw c.if-ended.false
