-- The search of the part from a place on.
use Rattle.text.proofs.MarkLaws.{mark-found, mark-absent}
use Rattle.text.proofs.marks.first_mark.Goals as goal

pub returns-in-Some : goal.returns-in-Some
returns-in-Some c = mark-found c.args.s.now c.args.from c.args.mark c.requires c.in-Some.place c.in-Some.ensures

pub returns-in-None : goal.returns-in-None
returns-in-None c = mark-absent c.args.s.now c.args.from c.args.mark c.requires c.in-None.ensures
