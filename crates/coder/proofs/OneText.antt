-- One text for what is read, however the reads cut it.
use mathlib.Core.Path.{◌≡◌, sym, ap, ◌∙◌}
use mathlib.Core.Bool.{false}
use mathlib.Core.List.{List}
use mathlib.Core.Logic.{⊎_elim}
use Prim.Native.Nat.{ℕ, ◌<◌}
use lib.ListN.{length}
use Rattle.text.proofs.OutputLaws.{split}
use Rattle.text.specs.AnswerLines.{line_text}
use Rattle.text.specs.declared.said.SaidLine.{SaidLine}
use Rattle.coder.proofs.OneAnswer.{answers_one}
use Rattle.streaming.specs.Inputs.{longest_line, most_octets}
use Rattle.streaming.specs.declared.output.Run.{Run}
use Rattle.streaming.proofs.AnswerLaws.{ran-one}
use Rattle.coder.specs.Coding.{Prints, CoderAnswer, CodesAll}

prints-one : {line : List ℕ} {a b : SaidLine} → Prints line a → Prints line b → a ≡ b
prints-one {line} p q = ⊎_elim (λ h. p.too_long h ∙ sym (q.too_long h)) (λ h. answers_one (p.answers h) (q.answers h)) (split longest_line (length line))

line-answer-one : (n : ℕ) (line t u : List ℕ) → CoderAnswer n line t → CoderAnswer n line u → t ≡ u
line-answer-one n line t u a b = a.is ∙ ap (line_text n) (prints-one a.prints b.prints) ∙ sym b.is

pub codes-one : {start start' block block' out out' : List ℕ} {r r' : Run} (a : CodesAll start block out r) (b : CodesAll start' block' out' r')
    → a.asked.read ≡ b.asked.read → length a.asked.read < most_octets → r.output.sink.closed ≡ false → r'.output.sink.closed ≡ false → r.input.source.failed ≡ false → r'.input.source.failed ≡ false
    → a.put.written ≡ b.put.written
codes-one = ran-one line-answer-one
