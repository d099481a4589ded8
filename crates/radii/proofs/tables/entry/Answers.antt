-- `radii::tables::entry` meets its contract: a place is its row's eight times the row, and the place in it.
use mathlib.Core.Path.{ap, ◌∙◌}
use mathlib.Core.List.{List}
use Prim.Native.Nat.{ℕ, ◌*◌, ◌/◌, ◌%◌}
use native.Mathlib.Omega.{arith}
use lib.ListN.{get_or}
use Rattle.radii.proofs.RowLaws.{in_row}
use Rattle.radii.specs.Tables.{entries_in}
use Rattle.radii.proofs.tables.entry.Goals as goal

pub returns : goal.returns
returns c =
    let table = c.args.table in
    let place = c.args.place in
    c.in_row.ensures ∙
    ap (λ (ns : List ℕ). get_or ns (place % 8) 0) c.row_of.ensures.entries ∙
    in_row (entries_in table) (8 * (place / 8)) (place % 8) (omega arith) ∙
    ap (λ (k : ℕ). get_or (entries_in table) k 0) (omega arith)
