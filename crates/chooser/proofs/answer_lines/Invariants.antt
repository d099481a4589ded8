-- The run stands where the lines behind the first are answered; each turn answers one more.
use mathlib.Core.Path.{◌≡◌}
use mathlib.Core.Bool.{false}
use mathlib.Core.List.{List}
use Prim.Native.Nat.{ℕ}
use Rattle.streaming.specs.Inputs.{SoundInput}
use Rattle.streaming.specs.Outputs.{SoundOutput}
use Rattle.streaming.specs.Answering.{Taken}
use Rattle.streaming.proofs.AnswerLaws.{GoesOn}
use Rattle.chooser.specs.Choosing.{ChooserAnswer, NoneAnswered}
use Rattle.chooser.proofs.answer_lines.Given as goal

abbrev pub invariant-loop : goal.invariant-loop
invariant-loop l = (l.run.output.answered ≡ l.counter) × SoundInput l.run.input × SoundOutput l.run.output × (l.run.output.sink.closed ≡ false)
    × ((first : List (List ℕ)) (start : List ℕ) → Taken first start l.initial.block l.initial.run.input → NoneAnswered l.initial.out l.initial.run.output → GoesOn (ChooserAnswer l.list) first start l.block l.out l.run.input l.run.output)
