-- `radii::tables::first_at_least` meets its contract: four halvings leave one row, and the first place is after those of the row that are below x.
use native.Mathlib.Omega.{arith}
use Rattle.radii.proofs.RowLaws.{first-in-row}
use Rattle.radii.proofs.TableLaws.{rises}
use Rattle.radii.proofs.tables.first_at_least.Goals as goal

pub overflow_add-result : goal.overflow_add-result
overflow_add-result c = let first = first-in-row (rises c.args.table) c.halved-row.ensures c.row_of.ensures c.below_in.ensures in omega (arith, first.place)

pub returns : goal.returns
returns c = first-in-row (rises c.args.table) c.halved-row.ensures c.row_of.ensures c.below_in.ensures
