-- THE CODER: the text of the answer to each line of its input.
use Rattle.std.specs.Prelude.{◌≡◌, List, [], ℕ, ◌≤◌, ◌<◌, length}
use Rattle.coder.specs.Lines.{Answers}
use Rattle.text.specs.AnswerLines.{line_text}
use Rattle.text.specs.declared.said.SaidLine.{SaidLine}
use Rattle.text.specs.declared.said.SaidLine.TheVariants.{Unreadable}
use Rattle.streaming.specs.Answering.{Ran}
use Rattle.streaming.specs.Inputs.{longest_line}
use Rattle.streaming.specs.declared.output.Run.{Run}

-- what is printed for a line; one that is too long to be kept is unreadable
pub record Prints (line : List ℕ) (r : SaidLine) : Type 0 where
  pub answers : length line ≤ longest_line → Answers line r
  pub too_long : longest_line < length line → r ≡ Unreadable

-- the n-th line's answer, as text
pub record CoderAnswer (n : ℕ) (line text : List ℕ) : Type 0 where
  pub said : SaidLine
  pub prints : Prints line said
  pub is : text ≡ line_text n said

-- WHAT THE PROGRAM DOES: it answers every line
abbrev pub CodesAll : List ℕ → List ℕ → List ℕ → Run → Type 0
CodesAll start block out r = Ran CoderAnswer [] start block out r
