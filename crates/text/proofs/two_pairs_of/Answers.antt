-- What a number has beside its hundreds is its second pair.
use Rattle.std.proofs.Common.{arith}
use Rattle.text.proofs.JoinedLaws.{hundredth, two-pairs-found}
use Rattle.text.proofs.two_pairs_of.Goals as goal

pub overflow_sub-result : goal.overflow_sub-result
overflow_sub-result c = rw (hundredth c.requires) (omega arith)

pub returns : goal.returns
returns c = two-pairs-found c.requires
