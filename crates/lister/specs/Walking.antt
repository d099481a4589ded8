-- THE WHOLE RUN: the turns in a row, with the octets that were read and the text that was put out.
use Rattle.std.specs.Prelude.{ℕ, ◌-◌, ◌≤◌, false, ◌≡◌, List, [], ◌++◌, length, drop}
use Rattle.lister.specs.declared.Held.{Held}
use Rattle.streaming.specs.Sources.{unread_yet}
use Rattle.streaming.specs.Sinks.{unwritten_yet}
use Rattle.lister.specs.Holding.{octets_held, found_in, Turned, HeldRefilled, most_frames}

-- nothing is read, listed or counted, and the input is not over
abbrev pub nothing_held : Held
nothing_held = record { at = 0; source = unread_yet; unbroken = 0; sink = unwritten_yet; ended = false }

-- A WALK to what is held now, with all octets that were read on the way and all text that was put out, each in order.
-- A step lists what is held into a buffer and puts that text out; or it reads a piece behind what is held, but not where a read has given nothing.
pub data Walk : List ℕ → Held → List ℕ → List ℕ → Type 0 where
  start : (buf : List ℕ) → Walk buf nothing_held [] []
  lists : {buf x y input text : List ℕ} {h r : Held} → Walk buf h input text → h.ended ≡ false → Turned buf x y h r
      → Walk buf r input (text ++ (found_in (length x) buf h).text)
  reads : {buf after input text : List ℕ} {h r : Held} → Walk buf h input text → h.ended ≡ false → h.source.over ≡ false → HeldRefilled buf after h r
      → Walk after r (input ++ drop (h.source.fill - h.at) (octets_held after r)) text

pub record Walked (buf : List ℕ) (h : Held) : Type 0 where
  pub input : List ℕ
  pub text : List ℕ
  pub walk : Walk buf h input text

-- WHAT A RUN DOES: a walk from nothing, which does not stop before it has ended, but for more frames than a log can have
pub record Ran (buf : List ℕ) (r : Held) : Type 0 where
  pub walked : Walked buf r
  pub stopped : r.ended ≡ false → most_frames ≤ r.unbroken
