-- A number below zero.
use Rattle.text.proofs.WidthLaws.{is_below}
use Rattle.text.proofs.widths.size_of.Goals as goal

pub returns-then-p-ne0 : goal.returns-then-p-ne0
returns-then-p-ne0 c = is_below c.in-Some.is c.if-p.true c.if-p-ne0.true
