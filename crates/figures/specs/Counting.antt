-- What the program keeps of its tally.
use Rattle.std.specs.Prelude.{◌≡◌, ℕ, ◌+◌, ◌≤◌}
use Rattle.figures.specs.declared.tally.Tally.{Tally}

-- so many figures more can be counted
pub record Room (n : ℕ) (t : Tally) : Type 0 where
  pub figures : t.figures + n ≤ 1000
  pub differences : t.differences ≤ t.figures

-- so many figures more were counted
pub record After (n : ℕ) (before after : Tally) : Type 0 where
  pub figures : after.figures ≡ before.figures + n
  pub differences : after.differences ≤ after.figures

-- something was printed: the figures are as they were
pub record Printed (before after : Tally) : Type 0 where
  pub figures : after.figures ≡ before.figures
  pub differences : after.differences ≡ before.differences
