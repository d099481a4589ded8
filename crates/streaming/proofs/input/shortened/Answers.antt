-- What is held is dropped, or stays.
use Rattle.std.proofs.Common.{refl, rules}
use Rattle.streaming.specs.Inputs.{same, dropped}
use Rattle.streaming.proofs.input.shortened.Goals as goal

pub returns-then-fill-input-gt-LONGEST_LINE : goal.returns-then-fill-input-gt-LONGEST_LINE
returns-then-fill-input-gt-LONGEST_LINE c = record { sound = search rules; same_ready = refl; drops = dropped (search rules) refl c.filled-fill.ensures refl }

pub returns-else-fill-input-gt-LONGEST_LINE : goal.returns-else-fill-input-gt-LONGEST_LINE
returns-else-fill-input-gt-LONGEST_LINE c = record { sound = search rules; same_ready = refl; drops = same refl }
