-- The search stands where reads in a row and what was dropped brought it.
use Rattle.std.proofs.Common.{◌≡◌, false, length}
use Rattle.streaming.specs.Inputs.{SoundInput}
use Rattle.streaming.proofs.SeekLaws.{Seeking}
use Rattle.streaming.proofs.input.read_line.Given as goal

abbrev pub invariant-loop : goal.invariant-loop
invariant-loop l = SoundInput l.input × (l.input.ready ≡ false) × Seeking l.initial.block l.block l.initial.input l.input l.counter × (length l.block ≡ 65536)
