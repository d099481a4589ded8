-- The eight octets of one number are set, one after the other.
use Rattle.std.proofs.Common.{arith, length-set}
use Rattle.text.proofs.JoinedLaws.{four-pairs, eight-low, octets-put}
use Rattle.text.proofs.put_eight.Goals as goal

pub digits_of-text-requires : goal.digits_of-text-requires
digits_of-text-requires c = four-pairs c.requires.n_bound c.pairs_of.ensures

pub bounds-out-at-2 : goal.bounds-out-at-2
bounds-out-at-2 c = simp length-set (omega arith)

pub bounds-out-at-3 : goal.bounds-out-at-3
bounds-out-at-3 c = simp length-set (omega arith)

pub bounds-out-at-4 : goal.bounds-out-at-4
bounds-out-at-4 c = simp length-set (omega arith)

pub bounds-out-at-5 : goal.bounds-out-at-5
bounds-out-at-5 c = simp length-set (omega arith)

pub bounds-out-at-6 : goal.bounds-out-at-6
bounds-out-at-6 c = simp length-set (omega arith)

pub bounds-out-at-7 : goal.bounds-out-at-7
bounds-out-at-7 c = simp length-set (omega arith)

pub bounds-out-at-8 : goal.bounds-out-at-8
bounds-out-at-8 c = simp length-set (omega arith)

pub shape_of-out : goal.shape_of-out
shape_of-out c = simp length-set

pub returns : goal.returns
returns c = octets-put _ _ _ (eight-low c.requires.n_bound c.pairs_of.ensures c.digits_of-text.ensures)
