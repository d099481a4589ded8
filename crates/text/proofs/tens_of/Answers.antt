-- Four products by 103 stand side by side, and each is divided by 1024 where it stands.
use Rattle.std.proofs.Common.{arith}
use Rattle.text.proofs.JoinedLaws.{pairs-less, tens-found}
use Rattle.text.proofs.tens_of.Goals as goal

pub overflow_mul-scaled : goal.overflow_mul-scaled
overflow_mul-scaled c = omega (arith, pairs-less c.requires)

pub returns : goal.returns
returns c = tens-found
