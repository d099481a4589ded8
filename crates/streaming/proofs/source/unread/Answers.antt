-- Nothing is read, and the input is not over.
use Rattle.std.proofs.Common.{refl}
use Rattle.streaming.proofs.source.unread.Goals as goal

pub returns : goal.returns
returns c = refl
