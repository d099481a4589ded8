-- The elements of a record say the record, so that what is written of them is written of it.
use Rattle.writing.proofs.ElementLaws.{held, writes-said}
use Rattle.writing.proofs.write_shape.Goals as goal

pub returns : goal.returns
returns c =
    let x = c.args.shape in
    writes-said x (held x _ c.well_formed.1.0) c.in_default.not-Nothing (rw c.elements_of-codes.ensures at c.write.ensures)
