-- Whether each number passed is at most the largest.
use Prim.Native.Nat.{ℕ, ◌≤◌, ◌<◌}
use lib.ListN.{get_or}
use Rattle.ground.specs.Answers.{Decides}
use Rattle.limits.proofs.within.Given as goal

abbrev pub invariant-loop-i : goal.invariant-loop-i
invariant-loop-i l = Decides l.all ((k : ℕ) → k < l.i → get_or l.numbers k 0 ≤ get_or l.largest k 0)
