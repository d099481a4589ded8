-- What is known of the answers that are put and of those that were written.
use Rattle.std.specs.Prelude.{◌≡◌, ℕ, ◌+◌, ◌%◌, ◌^◌, ◌≤◌, Bool, true, false, List, [], ◌++◌, length, take}
use Rattle.text.specs.AnswerLines.{end_text}
use Rattle.streaming.specs.declared.input.Input.{Input}
use Rattle.streaming.specs.declared.output.Output.{Output}
use Rattle.streaming.specs.declared.output.Run.{Run}
use Rattle.streaming.specs.Inputs.{SoundInput, LineTaken, NoLine}
use Rattle.streaming.specs.Sinks.{unwritten_yet, Wrote}

-- nothing is put, nothing answered and nothing written
abbrev pub no_output : Output
no_output = record { put = 0; answered = 0; sink = unwritten_yet }

pub record SoundOutput (o : Output) : Type 0 where
  pub answers : o.put ≤ 65536

-- THE TEXT SO FAR: a part was written, and what is left of it is put, unless the output is closed
pub record PutOut (text out : List ℕ) (o : Output) : Type 0 where
  pub written : List ℕ
  pub left : List ℕ
  pub parts : text ≡ written ++ left
  pub size : o.sink.written ≡ length written % 2 ^ 64
  pub kept : o.sink.closed ≡ false → left ≡ take o.put out

-- the answers that were put are written
pub record Written (out : List ℕ) (o r : Output) : Type 0 where
  pub none_left : r.put ≡ 0
  pub same_count : r.answered ≡ o.answered
  pub wrote : Wrote (take o.put out) o.sink r.sink

-- they are, or there was room
pub data Kept (out : List ℕ) (o r : Output) : Type 0 where
  same : r ≡ o → Kept out o r
  written : Written out o r → Kept out o r

-- there is room for so many octets more
pub record MadeRoom (longest : ℕ) (out : List ℕ) (o r : Output) : Type 0 where
  pub room : r.put + longest ≤ 65536
  pub same_count : r.answered ≡ o.answered
  pub kept : Kept out o r

-- the text goes on with the last line, and all of it is written, unless the output is closed
pub record EndWritten (before after : List ℕ) (o r : Output) : Type 0 where
  pub same_count : r.answered ≡ o.answered
  pub none_left : r.sink.closed ≡ false → r.put ≡ 0
  pub text : (text : List ℕ) → PutOut text before o → PutOut (text ++ end_text o.answered) after r

-- the last line of a run, which has none where a read failed
abbrev pub last_text : Bool → ℕ → List ℕ
last_text true n = []
last_text false n = end_text n

-- the same for a run: where a read failed, no last line
pub record WritesEnd (before after : List ℕ) (s r : Run) : Type 0 where
  pub same_input : r.input ≡ s.input
  pub same_count : r.output.answered ≡ s.output.answered
  pub stays_closed : s.output.sink.closed ≡ true → r.output.sink.closed ≡ true
  pub none_left : r.output.sink.closed ≡ false → r.output.put ≡ 0
  pub text : (text : List ℕ) → PutOut text before s.output → PutOut (text ++ last_text s.input.source.failed s.output.answered) after r.output

-- why a run has no next line: the output is closed, and nothing is taken; or there is none
pub data NoneOfRun (before block : List ℕ) (i : Input) (r : Run) : Type 0 where
  shut : r.output.sink.closed ≡ true → block ≡ before → r.input.source ≡ i.source → r.input.taken ≡ i.taken → NoneOfRun before block i r
  none : NoLine before block i r.input → NoneOfRun before block i r

-- NO ANSWER WAITS for what is not there yet: where something was read, none is left to be written
pub data Prompt (before block : List ℕ) (i : Input) (r : Run) : Type 0 where
  unread : block ≡ before → r.input.source ≡ i.source → Prompt before block i r
  answered : r.output.put ≡ 0 → Prompt before block i r

-- WHAT next_line HANDS BACK: the next line, or none. The answers are as they were, or they are written
pub record NextOfRun (before block out : List ℕ) (s r : Run) : Type 0 where
  pub sound : SoundInput r.input
  pub sound_output : SoundOutput r.output
  pub same_count : r.output.answered ≡ s.output.answered
  pub kept : Kept out s.output r.output
  pub prompt : Prompt before block s.input r
  pub line : r.input.ready ≡ true → LineTaken before block s.input r.input
  pub is_open : r.input.ready ≡ true → r.output.sink.closed ≡ false
  pub none : r.input.ready ≡ false → NoneOfRun before block s.input r
