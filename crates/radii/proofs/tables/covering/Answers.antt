-- `radii::tables::covering` meets its contract: a table rises, and the first entry that is at least the length is at the least code that covers.
use mathlib.Core.Path.{refl}
use Rattle.radii.proofs.TableLaws.{least_in, none_in}
use Rattle.radii.proofs.tables.covering.Goals as goal

pub returns-then-largest-x : goal.returns-then-largest-x
returns-then-largest-x c = (refl, none_in c.args.table c.args.x (rw c.largest.ensures at c.if-largest-x.true))

pub returns : goal.returns
returns c = least_in c.args.table _ _ c.first_at_least.ensures
