-- Two octets are set, one after the other.
use Rattle.text.proofs.OutputLaws.{row}
use Rattle.std.proofs.Common.{[], ◌∷◌, length-set, rules}
use Rattle.text.proofs.put_pair.Goals as goal

pub bounds-out-at-2 : goal.bounds-out-at-2
bounds-out-at-2 c = simp length-set (search rules)

pub returns : goal.returns
returns c = row _ _ _ (_ ∷ [])
