-- The fields of a line, and what a field says.
use Rattle.std.specs.Prelude.{◌≡◌, ℕ, ◌^◌, ◌<◌, ◌≤◌, cond, List, [], ◌∷◌, ◌++◌, length, drop, ℤ, pos, ◌==◌, slice_index_or, Option, Some, None}
use Rattle.text.specs.Numerals.{numeral_of}
use Rattle.text.specs.Widths.{Means, FitsSigned}
use Rattle.ground.specs.declared.quantity.PerCent.{PerCent}

-- the fields of a line whose first field starts with f: a field ends at each space (32)
unfoldable pub fields_from : List ℕ → List ℕ → List (List ℕ)
fields_from f [] = f ∷ []
fields_from f (b ∷ s) = cond (b == 32) (f ∷ fields_from [] s) (fields_from (f ++ b ∷ []) s)

abbrev pub fields_of : List ℕ → List (List ℕ)
fields_of line = fields_from [] line

-- the field of that number, from 0
abbrev pub field_at : List ℕ → ℕ → List ℕ
field_at line number = slice_index_or (fields_of line) number []

-- ---- what a field says

-- `-`
abbrev pub IsAbsent : List ℕ → Type 0
IsAbsent f = f ≡ 45 ∷ []

-- it writes z, which so many bits with a sign can hold
pub record SaysSigned (bits : ℕ) (f : List ℕ) (z : ℤ) : Type 0 where
  pub means : Means (numeral_of f) z
  pub fits : FitsSigned bits z

-- it writes n, which 32 bits without a sign can hold
pub record SaysUnsigned (f : List ℕ) (n : ℕ) : Type 0 where
  pub means : Means (numeral_of f) (pos n)
  pub fits : n < 2 ^ 32

-- ---- where a field stands

-- the field starts at r: from there on the line has the fields from that number on
pub record Starts (line : List ℕ) (number r : ℕ) : Type 0 where
  pub inside : r ≤ length line
  pub rest : fields_of (drop r line) ≡ drop number (fields_of line)

-- per cent, or none
abbrev pub SaysConfidence : List ℕ → Option PerCent → Type 0
SaysConfidence f (Some p) = SaysUnsigned f p.0
SaysConfidence f None = IsAbsent f
