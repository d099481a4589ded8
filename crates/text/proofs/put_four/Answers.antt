-- The low four octets of one number are set, one after the other.
use Rattle.std.proofs.Common.{arith, length-set}
use Rattle.text.proofs.JoinedLaws.{two-pairs, four_low, four-octets-put}
use Rattle.text.proofs.put_four.Goals as goal

pub digits_of-text-requires : goal.digits_of-text-requires
digits_of-text-requires c = two-pairs c.requires.n_bound c.two_pairs_of.ensures

pub bounds-out-at-2 : goal.bounds-out-at-2
bounds-out-at-2 c = simp length-set (omega arith)

pub bounds-out-at-3 : goal.bounds-out-at-3
bounds-out-at-3 c = simp length-set (omega arith)

pub bounds-out-at-4 : goal.bounds-out-at-4
bounds-out-at-4 c = simp length-set (omega arith)

pub shape_of-out : goal.shape_of-out
shape_of-out c = simp length-set

pub returns : goal.returns
returns c = four-octets-put _ _ _ (four_low c.requires.n_bound c.two_pairs_of.ensures c.digits_of-text.ensures)
