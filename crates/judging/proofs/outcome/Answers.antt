-- Codes that are done, and then the fields.
use mathlib.Core.Path.{refl}
use Rattle.ground.specs.Answers.{unmet}
use Rattle.judging.proofs.DemandLaws.{whole}
use Rattle.judging.proofs.outcome.Goals as goal

pub returns-then-not-in_fields : goal.returns-then-not-in_fields
returns-then-not-in_fields c = whole c.in_ok-codes_outcome.ensures (unmet c.if-not-in_fields.ensures refl)
