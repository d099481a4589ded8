-- The two tables of whole millimetres, what codes and reports by one, and its search.
use Rattle.std.specs.Prelude.{List, [], ◌∷◌, ℕ, zero, suc, ◌*◌, ◌-◌, ◌/◌, ◌^◌, ◌≤◌, ◌<◌, Result}
use Rattle.ground.specs.Answers.{Answer, said_of}
use Rattle.ground.specs.Sets.{LeastCode, GreatestCovered}
use Rattle.ground.specs.declared.refusals.Refusal.{Refusal}
use Rattle.radii.specs.Radii.{RadiusCovers, HeightCovers}
use Rattle.radii.specs.Rising.{Among}
use Rattle.radii.specs.declared.tables.Table.{Table}
use Rattle.radii.specs.declared.tables.Table.TheVariants.{Radii, Heights}

-- the whole part of scale·((num/den)^K - 1)
abbrev pub whole_part : ℕ → ℕ → ℕ → ℕ → ℕ
whole_part scale num den K = scale * (num ^ K - den ^ K) / den ^ K

-- f at i, i + 1, .., n numbers in all
abbrev pub tabulate : (ℕ → ℕ) → ℕ → ℕ → List ℕ
tabulate f zero i = []
tabulate f (suc n) i = f i ∷ tabulate f n (suc i)

-- for K from 0 to 127
abbrev pub whole_parts : ℕ → ℕ → ℕ → List ℕ
whole_parts scale num den = tabulate (whole_part scale num den) 128 0

unfoldable pub entries_in : Table → List ℕ
entries_in Radii = whole_parts 10000 11 10
entries_in Heights = whole_parts 45000 41 40

-- what a table's codes cover
abbrev pub covers_in : Table → ℕ → ℕ → Type 0
covers_in Radii = RadiusCovers
covers_in Heights = HeightCovers

-- the least K that covers R, and the greatest R that K covers
abbrev pub CodedBy : Table → ℕ → Result ℕ Refusal → Type 0
CodedBy t R r = Answer (LeastCode (covers_in t) 127 R) 8 (covers_in t 127 R → ⊥) (said_of r)

abbrev pub ReportedBy : Table → ℕ → Result ℕ Refusal → Type 0
ReportedBy t K r = Answer (GreatestCovered (covers_in t) 127 K) 7 (127 < K) (said_of r)

-- the first place is in one of the 2·half rows from a row on
pub record Halving (xs : List ℕ) (x row half : ℕ) : Type 0 where
  pub some : 1 ≤ half
  pub among : Among xs x (8 * row) (16 * half - 1)
