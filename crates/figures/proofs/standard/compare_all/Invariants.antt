-- Each turn counts one entry.
use Rattle.figures.specs.Counting.{After}
use Rattle.figures.proofs.standard.compare_all.Given as goal

abbrev pub invariant-loop-entry : goal.invariant-loop-entry
invariant-loop-entry l = After l.entry-index l.initial.t l.t
