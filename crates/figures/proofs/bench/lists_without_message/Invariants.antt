-- No more lists are counted than were tried.
use Rattle.std.proofs.Common.{◌≤◌}
use Rattle.figures.proofs.bench.lists_without_message.Given as goal

abbrev pub invariant-loop-list : goal.invariant-loop-list
invariant-loop-list l = l.count ≤ l.list
