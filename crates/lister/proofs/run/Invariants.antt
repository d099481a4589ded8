-- What is held is what a walk comes to that has not ended; each turn goes on with the walk, and comes nearer to the end.
use Prim.Native.Nat.{◌≤◌}
use mathlib.Core.Path.{◌≡◌}
use mathlib.Core.Bool.{false}
use lib.ListN.{length}
use Rattle.listing.specs.Steps.{longest_step}
use Rattle.lister.specs.Holding.{Sound, turns_left}
use Rattle.lister.specs.Walking.{Walked}
use Rattle.lister.proofs.run.Given as goal

abbrev pub invariant-loop-held : goal.invariant-loop-held
invariant-loop-held l = Sound l.buf l.held × Walked l.buf l.held × (l.held.ended ≡ false) × (l.held.sink.closed ≡ false) × (longest_step ≤ length l.out) × (length l.buf ≡ length l.initial.buf) × (length l.out ≡ length l.initial.out)

abbrev pub decreases-loop-held : goal.decreases-loop-held
decreases-loop-held l = turns_left l.held
