-- A PROGRAM THAT ANSWERS LINES: what its whole run does, by what an answer is.
use Rattle.std.specs.Prelude.{◌≡◌, ℕ, ◌+◌, ◌≤◌, true, false, List, [], ◌∷◌, ◌++◌, length}
use Rattle.streaming.specs.declared.input.Input.{Input}
use Rattle.streaming.specs.declared.output.Output.{Output}
use Rattle.streaming.specs.declared.output.Run.{Run}
use Rattle.streaming.specs.Sources.{unread_yet, octets_from, Goes}
use Rattle.streaming.specs.Lines.{lines_of}
use Rattle.streaming.specs.Inputs.{Line, most_octets}
use Rattle.streaming.specs.Outputs.{SoundOutput, PutOut, last_text}

-- THE LINES SO FAR: reads in a row brought octets, whose lines are those that were taken, and those of the octets that were dropped of a line or are held.
-- Whatever comes later goes with these.
pub record LinesRead (start block : List ℕ) (i : Input) : Type 0 where
  pub read : List ℕ
  pub taken : List ℕ
  pub lines : List (List ℕ)
  pub dropped : List ℕ
  pub goes : Goes start 0 unread_yet block i.taken i.source read taken
  pub parts : (later : List ℕ) → (i.source.over ≡ true → later ≡ [])
      → lines_of (read ++ later) ≡ lines ++ lines_of (dropped ++ (octets_from block i.taken i.source ++ later))

-- these lines were taken, and nothing was dropped since
pub record Taken (first : List (List ℕ)) (start block : List ℕ) (i : Input) : Type 0 where
  pub asked : LinesRead start block i
  pub these : asked.lines ≡ first
  pub whole : asked.dropped ≡ []

-- why a run stops: the output is closed, nothing is left to read, more octets came than a run reads, or a read failed, which was said on standard error
pub data Stops {start block : List ℕ} {i : Input} (asked : LinesRead start block i) (o : Output) : Type 0 where
  closed : o.sink.closed ≡ true → Stops asked o
  over : i.source.over ≡ true → i.taken ≡ i.source.fill → asked.dropped ≡ [] → Stops asked o
  many : most_octets ≤ length asked.read → Stops asked o
  failed : i.source.failed ≡ true → Stops asked o

-- `Answer n line t`: t is the text of the answer to that line, the n-th
module _ (Answer : ℕ → List ℕ → List ℕ → Type 0) where
  -- the answers to these lines, in order, after n others
  pub data Answers : ℕ → List (List ℕ) → List ℕ → Type 0 where
    none : {n : ℕ} → Answers n [] []
    more : {n : ℕ} {line t text : List ℕ} {lines : List (List ℕ)} → Answer (n + 1) line t → Answers (n + 1) lines text → Answers n (line ∷ lines) (t ++ text)

  -- the answer to the line that is held is put behind those before it
  pub record AnswerPut (block before after : List ℕ) (i : Input) (o r : Output) : Type 0 where
    pub text : List ℕ
    pub answer : (line : List ℕ) → Line block i line → Answer (o.answered + 1) line text
    pub put : (t : List ℕ) → PutOut t before o → PutOut (t ++ text) after r
    pub count : r.answered ≡ o.answered + 1
    pub sound : SoundOutput r

  -- WHERE A RUN STANDS: the lines that were taken, after some first ones, are answered, in order, and counted
  pub record Answering (first : List (List ℕ)) (start block out : List ℕ) (i : Input) (o : Output) : Type 0 where
    pub asked : LinesRead start block i
    pub lines : List (List ℕ)
    pub text : List ℕ
    pub these : asked.lines ≡ first ++ lines
    pub answers : Answers 0 lines text
    pub count : o.answered ≡ length lines
    pub put : PutOut text out o

  -- where it stands when it stops
  pub record Stopped (first : List (List ℕ)) (start block out : List ℕ) (r : Run) : Type 0 where
    pub at : Answering first start block out r.input r.output
    pub stops : Stops at.asked r.output
    pub sound : SoundOutput r.output

  -- WHAT A RUN DOES: it answers lines until it stops; then it puts the last line with their number, unless a read failed, and all is written, unless the output is closed
  pub record Ran (first : List (List ℕ)) (start block out : List ℕ) (r : Run) : Type 0 where
    pub asked : LinesRead start block r.input
    pub lines : List (List ℕ)
    pub text : List ℕ
    pub these : asked.lines ≡ first ++ lines
    pub answers : Answers 0 lines text
    pub count : r.output.answered ≡ length lines
    pub stops : Stops asked r.output
    pub put : PutOut (text ++ last_text r.input.source.failed (length lines)) out r.output
    pub all : r.output.sink.closed ≡ false → r.output.put ≡ 0
