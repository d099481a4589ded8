-- THE INPUT BY ITS FRAMES: the messages of an input, their lines, and the last line with their number.
use Rattle.std.specs.Prelude.{ℕ, ◌+◌, ◌≤◌, ◌≡◌, Bool, true, false, List, [], ◌∷◌, ◌++◌, length}
use Rattle.text.specs.AnswerLines.{end_text}
use Rattle.frames.specs.Frames.{frame_of}
use Rattle.frames.specs.declared.Frame.TheVariants.{Broken}
use Rattle.listing.specs.Steps.{line_of, broken_of}

pub record Message : Type 0 where
  pub kind : ℕ
  pub octets : List ℕ

-- the unbroken frame of a message
abbrev pub framed : Message → List ℕ
framed m = 0 ∷ (2 + length m.octets) ∷ 1 ∷ m.kind ∷ m.octets

-- an input of the unbroken frames of these messages, with nothing behind them, or (true) a broken frame
pub data Input : List Message → Bool → List ℕ → Type 0 where
  nothing : Input [] false []
  broken : {s : List ℕ} → frame_of true s ≡ Broken → Input [] true s
  frame : {ms : List Message} {b : Bool} {s : List ℕ} (m : Message) → m.kind ≤ 1 → length m.octets ≤ 91 → Input ms b s
      → Input (m ∷ ms) b (framed m ++ s)

-- a line for each message, after n others
unfoldable pub message_lines : ℕ → List Message → List ℕ
message_lines n [] = []
message_lines n (m ∷ ms) = line_of (n + 1) m.kind m.octets ++ message_lines (n + 1) ms

-- the lines behind those of n messages
unfoldable pub closing : Bool → ℕ → List ℕ
closing false n = end_text n
closing true n = broken_of (n + 1) ++ end_text n
