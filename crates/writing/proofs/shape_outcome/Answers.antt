-- The elements of a record say the record, so that what is answered to them is answered to it.
use Rattle.writing.proofs.ElementLaws.{held, answer-said}
use Rattle.writing.proofs.shape_outcome.Goals as goal

pub returns : goal.returns
returns c =
    let x = c.args.shape in
    answer-said x (held x _ c.well_formed.0) c.in_default.not-Nothing (rw c.elements_of-codes.ensures at c.outcome.ensures)
