-- A polygon and an arc by the law of their kinds.
use Rattle.judging.proofs.DemandLaws.{elements-codes}
use Rattle.judging.proofs.codes_outcome.Goals as goal

pub returns-in-Polygon : goal.returns-in-Polygon
returns-in-Polygon c = elements-codes c.args.codes.now c.requires.kind_value c.in-Polygon.is c.count.ensures

pub returns-in-Arc : goal.returns-in-Arc
returns-in-Arc c = elements-codes c.args.codes.now c.requires.kind_value c.in-Arc.is c.codes_outcome-in-Arc.ensures
