-- Which bits of a message are spare.
use Rattle.std.specs.Prelude.{List, [], ◌∷◌, ℕ, ◌+◌, ◌*◌, ◌≤◌, ◌<◌}
use Rattle.layout.specs.Layout.{Row}
use Rattle.layout.specs.Rows.{length_of}

-- bit k is in no row
abbrev pub InNoRow : List Row → ℕ → Type 0
InNoRow [] k = Unit {0}
InNoRow (r ∷ rs) k = (r.first ≤ k → r.first + r.width ≤ k) × InNoRow rs k

-- a bit of the message's octets that is in no row
pub record Spare (rows : List Row) (k : ℕ) : Type 0 where
  pub of_octets : k < 8 * length_of rows
  pub in_no_row : InNoRow rows k
