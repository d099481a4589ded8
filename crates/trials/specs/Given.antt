-- The numbers of a line, no more of them than there are places.
use Rattle.std.specs.Prelude.{◌≡◌, ◌≤◌, length}
use Rattle.trials.specs.declared.given.Given.{Given}

pub record SoundGiven (g : Given) : Type 0 where
  pub places : length g.numbers ≡ 128
  pub within : g.count ≤ 128
