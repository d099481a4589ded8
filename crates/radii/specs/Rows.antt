-- Rows of eight of a table's entries, and how many of some numbers are below x.
use Rattle.std.specs.Prelude.{◌≡◌, Bool, true, false, List, [], ◌∷◌, ℕ, ◌+◌, ◌≤◌, ltb, get_or}
use Rattle.radii.specs.declared.rows.Row.{Row}

abbrev pub entries_of : Row → List ℕ
entries_of r = r.0 ∷ r.1 ∷ r.2 ∷ r.3 ∷ r.4 ∷ r.5 ∷ r.6 ∷ r.7 ∷ []

-- the eight entries of xs from k on
abbrev pub row_from : List ℕ → ℕ → List ℕ
row_from xs k =
    get_or xs k 0 ∷
    get_or xs (k + 1) 0 ∷
    get_or xs (k + 2) 0 ∷
    get_or xs (k + 3) 0 ∷
    get_or xs (k + 4) 0 ∷
    get_or xs (k + 5) 0 ∷
    get_or xs (k + 6) 0 ∷
    get_or xs (k + 7) 0 ∷
    []

pub record IsRow (xs : List ℕ) (k : ℕ) (r : Row) : Type 0 where
  pub entries : entries_of r ≡ row_from xs k

-- how many of some numbers are below x: 1 for each that is
abbrev pub one : Bool → ℕ
one true = 1
one false = 0

abbrev pub below : ℕ → List ℕ → ℕ
below x [] = 0
below x (n ∷ ns) = one (ltb n x) + below x ns

pub record TellsBelow (n x r : ℕ) : Type 0 where
  pub told : r ≡ one (ltb n x)
  pub unit : r ≤ 1
