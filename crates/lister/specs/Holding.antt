-- What the program's steps do to the octets that it holds; `Walking` has them in a row.
use Rattle.std.specs.Prelude.{ℕ, ◌+◌, ◌-◌, ◌*◌, ◌≤◌, ◌<◌, Bool, true, false, ◌||◌, ◌≡◌, List, length, drop}
use Rattle.std.proofs.lemmas.List.Edits.{sets}
use Rattle.listing.specs.Streaming.{Found, some_of}
use Rattle.lister.specs.declared.Held.{Held}
use Rattle.streaming.specs.Sources.{octets_from, ReadMore}
use Rattle.streaming.specs.Sinks.{Wrote}

-- the octets that are read and not yet listed
abbrev pub octets_held : List ℕ → Held → List ℕ
octets_held buf h = octets_from buf h.at h.source

pub record Sound (buf : List ℕ) (h : Held) : Type 0 where
  pub order : h.at ≤ h.source.fill
  pub inside : h.source.fill ≤ length buf

-- what list_some finds in what is held, with a buffer of some size
abbrev pub found_in : ℕ → List ℕ → Held → Found
found_in size buf h = some_of size h.source.over (octets_held buf h) h.unbroken

-- what was held is listed as far as the buffer x has room. A closed output ends the run, too
pub record Turned (buf x y : List ℕ) (h r : Held) : Type 0 where
  pub sound : Sound buf r
  pub place : r.at ≡ h.at + (found_in (length x) buf h).taken
  pub held : octets_held buf r ≡ drop (found_in (length x) buf h).taken (octets_held buf h)
  pub unbroken : r.unbroken ≡ (found_in (length x) buf h).unbroken
  pub same_source : r.source ≡ h.source
  pub wrote : Wrote (found_in (length x) buf h).text h.sink r.sink
  pub ended : r.ended ≡ ((found_in (length x) buf h).ended || r.sink.closed)
  pub few : r.unbroken ≤ h.unbroken + (found_in (length x) buf h).taken
  pub content : y ≡ sets x 0 (found_in (length x) buf h).text

-- what was read stands behind what was held; a read that failed ends the run
pub record HeldRefilled (before after : List ℕ) (h r : Held) : Type 0 where
  pub sound : Sound after r
  pub read : ReadMore before after h.at h.source r.source
  pub start : r.at ≡ 0
  pub unbroken : r.unbroken ≡ h.unbroken
  pub same_sink : r.sink ≡ h.sink
  pub ended : r.ended ≡ r.source.failed

-- no log has so many frames
abbrev pub most_frames : ℕ
most_frames = 4611686018427387904

abbrev pub may_read : Bool → ℕ
may_read true = 0
may_read false = 100

-- an upper bound of the turns that are left: each lists a frame, or reads where fewer than 95 octets are held, or finds that nothing is left to read
abbrev pub turns_left : Held → ℕ
turns_left h = 200 * (most_frames - h.unbroken) + may_read h.source.over + (95 - (h.source.fill - h.at))

-- A TURN: what is held is listed; and where that lists no frame and ends nothing, and something may be left to read, more is read behind it
pub data Stepped (buf x y after : List ℕ) (h r : Held) : Type 0 where
  lists : Turned buf x y h r → after ≡ buf → Stepped buf x y after h r
  reads : (m : Held) → Turned buf x y h m → m.ended ≡ false → m.source.over ≡ false → HeldRefilled buf after m r → Stepped buf x y after h r

-- a turn goes on nearer to the end
pub record TurnTaken (buf x y after : List ℕ) (h r : Held) : Type 0 where
  pub stepped : Stepped buf x y after h r
  pub sound : Sound after r
  pub nearer : r.ended ≡ false → turns_left r < turns_left h
