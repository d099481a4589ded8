-- A pair's 256-fold less 2559 for each ten is its tens, and 256 for each of its units.
use Rattle.std.proofs.Common.{arith}
use Rattle.text.proofs.JoinedLaws.{pairs-less, tens-less, digits-found}
use Rattle.text.proofs.digits_of.Goals as goal

pub overflow_mul-result : goal.overflow_mul-result
overflow_mul-result c = omega (arith, pairs-less c.requires)

pub overflow_add-result : goal.overflow_add-result
overflow_add-result c = omega (arith, pairs-less c.requires)

pub overflow_mul-result-2 : goal.overflow_mul-result-2
overflow_mul-result-2 c = omega (arith, pairs-less c.requires, tens-less c.requires c.tens_of.ensures)

pub overflow_sub-result : goal.overflow_sub-result
overflow_sub-result c = omega (arith, tens-less c.requires c.tens_of.ensures)

pub returns : goal.returns
returns c = λ p. digits-found p c.tens_of.ensures
