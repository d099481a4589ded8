-- The run stands where the lines so far are answered; each turn answers one more.
use mathlib.Core.Path.{◌≡◌}
use mathlib.Core.Bool.{false}
use mathlib.Core.List.{[]}
use Rattle.streaming.specs.Inputs.{SoundInput}
use Rattle.streaming.specs.Outputs.{SoundOutput}
use Rattle.streaming.proofs.AnswerLaws.{GoesOn}
use Rattle.coder.specs.Coding.{CoderAnswer}
use Rattle.coder.proofs.answer_lines.Given as goal

abbrev pub invariant-loop : goal.invariant-loop
invariant-loop l = (l.run.output.answered ≡ l.counter) × SoundInput l.run.input × SoundOutput l.run.output × (l.run.output.sink.closed ≡ false) × GoesOn CoderAnswer [] l.initial.block l.block l.out l.run.input l.run.output
