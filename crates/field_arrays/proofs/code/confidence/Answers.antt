-- `code::confidence` meets its contract: the element has the mark of a missing quantity, or a number.
use Rattle.field_arrays.specs.Fields.{coded}
use Rattle.field_arrays.proofs.code.confidence.Goals as goal

pub returns-then-is_missing : goal.returns-then-is_missing
returns-then-is_missing c = coded (rw c.if-is_missing.true at c.is_missing.ensures) c.coded_missing.ensures

pub returns : goal.returns
returns c = c.natural.ensures (rw c.if-is_missing.false at c.is_missing.ensures)
