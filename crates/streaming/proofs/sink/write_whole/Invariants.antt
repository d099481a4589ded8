-- What is written goes up to `done`.
use Rattle.std.proofs.Common.{◌≤◌, length}
use Rattle.streaming.proofs.sink.write_whole.Given as goal

abbrev pub invariant-loop : goal.invariant-loop
invariant-loop l = l.done ≤ length l.text
