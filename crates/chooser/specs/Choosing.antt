-- THE CHOOSER: the receiver's list in the first line of its input, and the text of the answer to each further line.
use Rattle.std.specs.Prelude.{◌≡◌, List, [], ◌∷◌, ℕ, ◌≤◌, ◌<◌, length, take, replicate, Some, None, Result, Ok, Err}
use Rattle.requests.specs.declared.Request.{Request}
use Rattle.requests.specs.Choice.{Chooses, Listed}
use Rattle.request_lines.specs.Asking.{Asks, ListIn}
use Rattle.request_lines.specs.Answers.{choice_text}
use Rattle.request_lines.specs.declared.Unreadable.{Unreadable}
use Rattle.text.specs.Text.{PutsWithin}
use Rattle.streaming.specs.Answering.{Taken, Stopped, Ran}
use Rattle.streaming.specs.Inputs.{longest_line}
use Rattle.streaming.specs.Outputs.{PutOut}
use Rattle.streaming.specs.declared.output.Output.{Output}
use Rattle.streaming.specs.declared.output.Run.{Run}
use Rattle.ground.specs.declared.refusals.Refusal.{Refusal}

-- the receiver's list in a line; one that is too long to be kept is the empty list
pub record LineLists (line : List ℕ) (list : ℕ) : Type 0 where
  pub says : length line ≤ longest_line → ListIn line list
  pub too_long : longest_line < length line → list ≡ 0

-- what a line asks; one that is too long to be kept is unreadable
pub record LineAsks (line : List ℕ) (r : Result Request Unreadable) : Type 0 where
  pub asks : length line ≤ longest_line → Asks line r
  pub too_long : longest_line < length line → r ≡ Err (record {})

-- the message that the choice left in the buffer, or its refusal
abbrev pub message_in : List ℕ → Result ℕ Refusal → Result (List ℕ) Refusal
message_in after (Ok length) = Ok (take length after)
message_in after (Err why) = Err why

-- the n-th answer, as text: what the choice answers for the request, into 14 octets
pub data AnswerTo (list n : ℕ) : Result Request Unreadable → List ℕ → Type 0 where
  unreadable : {u : Unreadable} → AnswerTo list n (Err u) (choice_text n None)
  chosen : {q : Request} {after : List ℕ} (w : Result ℕ Refusal) → Chooses q (Listed list) (replicate 14 0) after w
      → AnswerTo list n (Ok q) (choice_text n (Some (message_in after w)))

pub record ChooserAnswer (list n : ℕ) (line text : List ℕ) : Type 0 where
  pub asked : Result Request Unreadable
  pub asks : LineAsks line asked
  pub is : AnswerTo list n asked text

-- the first line is the list; where there is none, no line is answered
pub data Heads (list : ℕ) : List (List ℕ) → ℕ → Type 0 where
  nothing : Heads list [] 0
  listed : {line : List ℕ} {answered : ℕ} → LineLists line list → Heads list (line ∷ []) answered

-- WHAT THE PROGRAM DOES: it takes the list from the first line, and answers every other
pub record ChoosesAll (start block out : List ℕ) (r : Run) : Type 0 where
  pub list : ℕ
  pub first : List (List ℕ)
  pub ran : Ran (ChooserAnswer list) first start block out r
  pub heads : Heads list first r.output.answered

-- ---- the parts

-- the answer is put at its place, where there is room for it
pub record PutsChosen (list n : ℕ) (asked : Result Request Unreadable) (before : List ℕ) (at : ℕ) (after : List ℕ) (next : ℕ) : Type 0 where
  pub text : List ℕ
  pub is : AnswerTo list n asked text
  pub puts : PutsWithin 65 before at text after next
  pub inside : next ≤ length before

-- nothing is put out, and no line answered
pub record NoneAnswered (out : List ℕ) (o : Output) : Type 0 where
  pub put : PutOut [] out o
  pub count : o.answered ≡ 0

-- the lines behind those that were taken are answered, where none was before
abbrev pub AnswersRest : ℕ → Run → List ℕ → List ℕ → List ℕ → List ℕ → Run → Type 0
AnswersRest list s before block x out r =
    (first : List (List ℕ)) (start : List ℕ) → Taken first start before s.input → NoneAnswered x s.output → Stopped (ChooserAnswer list) first start block out r

-- where it stands when it stops
pub record StoppedChoosing (start block out : List ℕ) (r : Run) : Type 0 where
  pub list : ℕ
  pub first : List (List ℕ)
  pub stopped : Stopped (ChooserAnswer list) first start block out r
  pub heads : Heads list first r.output.answered
