-- THE LINES of an input.
use Rattle.std.specs.Prelude.{ℕ, ◌<◌, cond, List, [], ◌∷◌, ◌++◌, length, ◌==◌, ◌≢◌, slice_index}

-- what is left at the end of the input is a line, too, unless it is nothing
abbrev pub last_of : List ℕ → List (List ℕ)
last_of [] = []
last_of (b ∷ s) = (b ∷ s) ∷ []

-- the lines of an input whose first line starts with l: a line ends at each newline (10)
unfoldable pub lines_from : List ℕ → List ℕ → List (List ℕ)
lines_from l [] = last_of l
lines_from l (b ∷ s) = cond (b == 10) (l ∷ lines_from [] s) (lines_from (l ++ b ∷ []) s)

abbrev pub lines_of : List ℕ → List (List ℕ)
lines_of s = lines_from [] s

pub record NoNewline (l : List ℕ) : Type 0 where
  pub none : (k : ℕ) → k < length l → slice_index l k ≢ 10
