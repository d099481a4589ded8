-- `radii::tables::covered` meets its contract, by the rule of the tables.
use native.Mathlib.Omega.{arith}
use Rattle.radii.proofs.TableLaws.{entry_in}
use Rattle.radii.proofs.tables.covered.Goals as goal

pub returns : goal.returns
returns c = rw (c.entry.ensures, c.from.ensures) (entry_in c.args.table _ (omega arith))
