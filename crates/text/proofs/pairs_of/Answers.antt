-- The hundreds of both halves are found at once; what a half has beside them is its second pair.
use Rattle.std.proofs.Common.{arith}
use Rattle.text.proofs.JoinedLaws.{upper-hundreds, lower-hundreds, hundreds-less, pairs-found}
use Rattle.text.proofs.pairs_of.Goals as goal

pub overflow_mul-hundreds : goal.overflow_mul-hundreds
overflow_mul-hundreds c = rw (lower-hundreds c.requires) (omega arith)

pub overflow_add-hundreds : goal.overflow_add-hundreds
overflow_add-hundreds c = rw (upper-hundreds c.requires, lower-hundreds c.requires) (omega arith)

pub overflow_mul-result-2 : goal.overflow_mul-result-2
overflow_mul-result-2 c = rw (upper-hundreds c.requires, lower-hundreds c.requires) (omega arith)

pub overflow_sub-result : goal.overflow_sub-result
overflow_sub-result c = rw (upper-hundreds c.requires, lower-hundreds c.requires) (hundreds-less c.requires)

pub returns : goal.returns
returns c = rw (upper-hundreds c.requires, lower-hundreds c.requires) (pairs-found c.requires)
