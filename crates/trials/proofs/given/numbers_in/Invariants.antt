-- The array keeps its length.
use Rattle.std.proofs.Common.{◌≡◌, length}
use Rattle.trials.proofs.given.numbers_in.Given as goal

abbrev pub invariant-loop-count : goal.invariant-loop-count
invariant-loop-count l = length l.numbers ≡ 128
