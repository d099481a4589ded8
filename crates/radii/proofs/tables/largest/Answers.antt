-- `radii::tables::largest` meets its contract: antt computes the last entry of each table.
use mathlib.Core.Path.{refl}
use Rattle.radii.specs.Tables.{entries_in}
use Rattle.radii.proofs.tables.largest.Goals as goal

pub returns-in-Radii : goal.returns-in-Radii
unfolding entries_in
returns-in-Radii c = rw c.in-Radii.is refl

pub returns-in-Heights : goal.returns-in-Heights
unfolding entries_in
returns-in-Heights c = rw c.in-Heights.is refl
