-- One answer: of a code one thing is said, for every field.
use Rattle.std.specs.Prelude.{Result}
use mathlib.Core.Path.{◌≡◌, sym, ap, ◌∙◌}
use Rattle.ground.specs.Answers.{tells}
use Rattle.ground.specs.declared.refusals.Refusal.{Refusal}
use Rattle.ground.specs.declared.said.SaidQuantity.{SaidQuantity}
use Rattle.fields.specs.Fields.{Field, CodeOf}
use Rattle.fields.proofs.OneAnswer.{reporting-one}
use Rattle.one_field.specs.Reporting.{said_quantity_number, TellsQuantity}

pub tells-quantity-one : (f : Field) (c : CodeOf f) (a b : Result SaidQuantity Refusal) → TellsQuantity f c a → TellsQuantity f c b → a ≡ b
tells-quantity-one f c a b p q = p.told ∙ ap (tells (said_quantity_number f)) (reporting-one f c p.said q.said p.promise q.promise) ∙ sym q.told
