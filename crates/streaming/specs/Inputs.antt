-- What is known of the line that is held, and of the octets around it.
use Rattle.std.specs.Prelude.{◌≡◌, ℕ, ◌-◌, ◌<◌, ◌≤◌, Bool, true, false, List, [], ◌∷◌, ◌++◌, length, take, drop}
use Rattle.streaming.specs.declared.input.Input.{Input}
use Rattle.streaming.specs.Sources.{unread_yet, ReadMore, Goes}
use Rattle.streaming.specs.Lines.{NoNewline}

-- nothing is read, and there is no line
abbrev pub no_input : Input
no_input = record { source = unread_yet; taken = 0; from = 0; end = 0; long = false; ready = false }

-- what is not yet taken lies in what was read, and the line in the block of 65536 octets
pub record SoundInput (i : Input) : Type 0 where
  pub order : i.taken ≤ i.source.fill
  pub block : i.source.fill ≤ 65536
  pub line : i.from ≤ i.end
  pub inside : i.end ≤ 65536

-- ---- A LINE

-- no line is longer, and kept
abbrev pub longest_line : ℕ
longest_line = 4096

-- the octets of the block from `from` to `end`
abbrev pub line_in : List ℕ → Input → List ℕ
line_in block i = take (i.end - i.from) (drop i.from block)

-- the line that is held is that one; of a long one only that it is long is known
pub record Line (block : List ℕ) (i : Input) (line : List ℕ) : Type 0 where
  pub kept : i.long ≡ false → line_in block i ≡ line
  pub short : i.long ≡ false → length line ≤ longest_line
  pub long : i.long ≡ true → longest_line < length line

-- after the line a newline; or the input is over, nothing is left, and the line is not empty
pub data Mark (r : Input) (line : List ℕ) : List ℕ → Type 0 where
  newline : Mark r line (10 ∷ [])
  over : r.source.over ≡ true → r.taken ≡ r.source.fill → 0 < length line → Mark r line []

-- what was held and what was read is the line, its mark, and what is held after
pub record LineTaken (before block : List ℕ) (i r : Input) : Type 0 where
  pub read : List ℕ
  pub line : List ℕ
  pub mark : List ℕ
  pub goes : Goes before i.taken i.source block r.taken r.source read (line ++ mark)
  pub whole : NoNewline line
  pub ended : Mark r line mark
  pub is : Line block r line

-- a run reads no more octets
abbrev pub most_octets : ℕ
most_octets = 4611686018427387904

-- why there is no line: nothing is left, too much was read in search of its end, or a read failed
pub data NoLine (before block : List ℕ) (i r : Input) : Type 0 where
  nothing : {read : List ℕ} → Goes before i.taken i.source block r.taken r.source read [] → r.source.over ≡ true → r.taken ≡ r.source.fill → NoLine before block i r
  many : {read taken : List ℕ} → Goes before i.taken i.source block r.taken r.source read taken → most_octets ≤ length read → NoLine before block i r
  failed : {read taken : List ℕ} → Goes before i.taken i.source block r.taken r.source read taken → r.source.failed ≡ true → NoLine before block i r

-- what held_line hands back: the next line, or nothing is taken; it reads nothing
pub record HeldLine (block : List ℕ) (i r : Input) : Type 0 where
  pub sound : SoundInput r
  pub line : r.ready ≡ true → LineTaken block block i r
  pub same_source : r.source ≡ i.source
  pub same_taken : r.ready ≡ false → r.taken ≡ i.taken

-- what read_line hands back: the next line, or none
pub record NextLine (before block : List ℕ) (i r : Input) : Type 0 where
  pub sound : SoundInput r
  pub line : r.ready ≡ true → LineTaken before block i r
  pub none : r.ready ≡ false → NoLine before block i r

-- ---- the steps

-- as it was, but that no line is ready and none is long
pub record Started (i r : Input) : Type 0 where
  pub sound : SoundInput r
  pub same_source : r.source ≡ i.source
  pub same_taken : r.taken ≡ i.taken
  pub not_long : r.long ≡ false
  pub not_ready : r.ready ≡ false

-- what `end` and `taken` cut off is read and not yet taken
pub record Cuts (i : Input) (end taken : ℕ) : Type 0 where
  pub start : i.taken ≤ end
  pub order : end ≤ taken
  pub read : taken ≤ i.source.fill

-- a line of which so much is held is long, or what was dropped of it made it so
pub record IsLong (dropped : Bool) (size : ℕ) (r : Bool) : Type 0 where
  pub short : r ≡ false → (dropped ≡ false) × (size ≤ longest_line)
  pub long : r ≡ true → dropped ≡ false → longest_line < size

-- r has the line up to `end`, and what is taken goes up to `taken`
pub record Cut (i : Input) (end taken : ℕ) (r : Input) : Type 0 where
  pub sound : SoundInput r
  pub is_ready : r.ready ≡ true
  pub line_from : r.from ≡ i.taken
  pub line_end : r.end ≡ end
  pub taken_to : r.taken ≡ taken
  pub same_source : r.source ≡ i.source
  pub length_told : IsLong i.long (end - i.taken) r.long

-- what is left at the end of the input is a line, or there is none
pub data LastLine (i r : Input) : Type 0 where
  line : Cut i i.source.fill i.source.fill r → (i.long ≡ false → i.taken < i.source.fill) → LastLine i r
  none : i.taken ≡ i.source.fill → i.long ≡ false → r ≡ i → LastLine i r

-- the octets held stay, or they are dropped, where they are more than the longest line has
pub data Drops (i r : Input) : Type 0 where
  same : r ≡ i → Drops i r
  dropped : longest_line < i.source.fill - i.taken → r.source ≡ i.source → r.taken ≡ i.source.fill → r.long ≡ true → Drops i r

pub record Shortened (i r : Input) : Type 0 where
  pub sound : SoundInput r
  pub same_ready : r.ready ≡ i.ready
  pub drops : Drops i r

-- what was read stands behind what was held
pub record Refilled (before block : List ℕ) (i r : Input) : Type 0 where
  pub sound : SoundInput r
  pub read : ReadMore before block i.taken i.source r.source
  pub start : r.taken ≡ 0
  pub same_long : r.long ≡ i.long
  pub same_ready : r.ready ≡ i.ready
