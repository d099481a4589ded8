-- THE LINES of the chooser's input.
use Rattle.std.specs.Prelude.{◌≡◌, List, ℕ, ◌<◌, ◌^◌, length, pos, Option, Some, None, Result, Ok, Err}
use Rattle.ground.specs.declared.quantity.Millimetres.{Millimetres}
use Rattle.ground.specs.declared.quantity.SignedMillimetres.{SignedMillimetres}
use Rattle.text.specs.Numerals.{numeral_of}
use Rattle.text.specs.Widths.{Means}
use Rattle.text.specs.LineFields.{fields_of, field_at, IsAbsent, SaysSigned, SaysUnsigned, SaysConfidence}
use Rattle.requests.specs.declared.Request.{Request}
use Rattle.requests.specs.declared.Horizontal.{Horizontal}
use Rattle.requests.specs.declared.Horizontal.TheVariants as horizontal
use Rattle.request_lines.specs.declared.Unreadable.{Unreadable}

-- ---- what a field says

abbrev pub SaysAltitude : List ℕ → Option SignedMillimetres → Type 0
SaysAltitude f (Some a) = SaysSigned 32 f a.0
SaysAltitude f None = IsAbsent f

-- semi-major, semi-minor, orientation
abbrev pub SaysHorizontal : List ℕ → List ℕ → List ℕ → Horizontal → Type 0
SaysHorizontal f g h (horizontal.Circle R) = SaysUnsigned f R.0 × IsAbsent g × IsAbsent h
SaysHorizontal f g h (horizontal.Ellipse R S a) = SaysUnsigned f R.0 × SaysUnsigned g S.0 × SaysUnsigned h a.0
SaysHorizontal f g h horizontal.NotAsked = IsAbsent f × IsAbsent g × IsAbsent h

abbrev pub SaysUncertainty : List ℕ → Option Millimetres → Type 0
SaysUncertainty f (Some R) = SaysUnsigned f R.0
SaysUncertainty f None = IsAbsent f

-- ---- THE PROMISES

-- the line has eight fields, and they say the request
pub record Says (line : List ℕ) (q : Request) : Type 0 where
  pub eight : length (fields_of line) ≡ 8
  pub latitudes : SaysSigned 64 (field_at line 0) q.latitude.0
  pub longitudes : SaysSigned 64 (field_at line 1) q.longitude.0
  pub altitudes : SaysAltitude (field_at line 2) q.altitude
  pub areas : SaysHorizontal (field_at line 3) (field_at line 4) (field_at line 5) q.horizontal
  pub heights : SaysUncertainty (field_at line 6) q.altitude_uncertainty
  pub confidences : SaysConfidence (field_at line 7) q.confidence

-- the request that the line says, and unreadable where it says none
abbrev pub Asks : List ℕ → Result Request Unreadable → Type 0
Asks line (Ok q) = Says line q
Asks line (Err _) = (q : Request) → Says line q → ⊥

-- a list of 16 bits that the whole line writes
pub record SaysList (line : List ℕ) (list : ℕ) : Type 0 where
  pub means : Means (numeral_of line) (pos list)
  pub fits : list < 2 ^ 16

-- that list, or that it writes none
abbrev pub ReadsList : List ℕ → Option ℕ → Type 0
ReadsList line (Some list) = SaysList line list
ReadsList line None = (list : ℕ) → SaysList line list → ⊥

-- that list, and the empty one where it writes none
pub record ListIn (line : List ℕ) (r : ℕ) : Type 0 where
  pub written : (list : ℕ) → SaysList line list → r ≡ list
  pub empty : ((list : ℕ) → SaysList line list → ⊥) → r ≡ 0
