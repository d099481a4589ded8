-- The loop keeps that what is meant by the call is what is meant from here on, with the text so far (`Kept`).
use Prim.Native.Nat.{◌-◌}
use lib.ListN.{length}
use Rattle.listing.proofs.SomeLaws.{Kept}
use Rattle.listing.proofs.list_some.Given as goal

abbrev pub invariant-loop-out : goal.invariant-loop-out
invariant-loop-out l = Kept l.last l.input l.unbroken l.initial.out l.out l.taken l.written l.count

abbrev pub decreases-loop-out : goal.decreases-loop-out
decreases-loop-out l = length l.input - l.taken
