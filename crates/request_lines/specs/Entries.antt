-- What the fields of a line hold.
use Rattle.std.specs.Prelude.{◌≡◌, Bool, true, false, List, ℕ, ◌+◌, ◌-◌, ◌≤◌, ◌<◌, length, get_or, take, drop, Some, None, Result, Ok, Err}
use Rattle.text.specs.Marks.{FirstMark}
use Rattle.text.specs.Numerals.{numeral_of}
use Rattle.request_lines.specs.declared.Unreadable.{Unreadable}
use Rattle.request_lines.specs.declared.entries.Entry.{Entry}
use Rattle.request_lines.specs.declared.entries.Entry.TheVariants.{Plain, Minus, Dash, Neither}
use Rattle.text.specs.LineFields.{fields_of, field_at, IsAbsent}

-- the field writes a number of that size, after a minus sign or with none, is a dash, or neither
abbrev pub EntryHolds : List ℕ → Entry → Type 0
EntryHolds f (Plain size) = numeral_of f ≡ Some (record { negative = false; size = size })
EntryHolds f (Minus size) = numeral_of f ≡ Some (record { negative = true; size = size })
EntryHolds f Dash = IsAbsent f
EntryHolds f Neither = (numeral_of f ≡ None) × (IsAbsent f → ⊥)

-- past a minus sign (45) where one stands
pub record PastSign (line : List ℕ) (from r : ℕ) : Type 0 where
  pub after : from ≤ r
  pub inside : r ≤ length line
  pub minus : from < r → (from + 1 ≡ r) × (get_or line from 0 ≡ 45)
  pub none : r ≡ from → from < length line → get_or line from 0 ≡ 45 → ⊥

-- whether neither a space nor the end of the line stands there
pub record GoesOn (line : List ℕ) (end : ℕ) (r : Bool) : Type 0 where
  pub yes : r ≡ true → (end < length line) × (get_or line end 0 ≡ 32 → ⊥)
  pub no : r ≡ false → end < length line → get_or line end 0 ≡ 32

-- the field from there up to the next space (32) or the end of the line holds that
pub record EntryAt (line : List ℕ) (from : ℕ) (entry : Entry) (r : ℕ) : Type 0 where
  pub end : FirstMark 32 line from r
  pub holds : EntryHolds (take (r - from) (drop from line)) entry

-- the line has eight fields, and they hold that
pub record Eight (line : List ℕ) (held : List Entry) : Type 0 where
  pub eight : length (fields_of line) ≡ 8
  pub each : (number : ℕ) → number < 8 → EntryHolds (field_at line number) (get_or held number Neither)

-- whether it has eight, and what they hold
abbrev pub HeldInEight : List ℕ → List Entry → Result Unit Unreadable → Type 0
HeldInEight line held (Ok _) = Eight line held
HeldInEight line held (Err _) = length (fields_of line) ≡ 8 → ⊥
