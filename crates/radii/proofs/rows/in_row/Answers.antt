-- `radii::rows::in_row` meets its contract: each half is the one that has the place.
use Rattle.radii.proofs.RowLaws.{by-halves}
use Rattle.radii.proofs.rows.in_row.Goals as goal

pub returns : goal.returns
returns c =
    let row = c.args.row in
    cc (by-halves row.0 row.1 row.2 row.3 row.4 row.5 row.6 row.7 _ c.requires)
