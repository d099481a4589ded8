-- What is held of the input stays sound.
use Rattle.streaming.specs.Inputs.{SoundInput}
use Rattle.trials.proofs.take_lines.Given as goal

abbrev pub invariant-loop-lines : goal.invariant-loop-lines
invariant-loop-lines l = SoundInput l.input
