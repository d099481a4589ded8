-- One answer: of a quantity one thing is said, for every field.
use Rattle.std.specs.Prelude.{Result}
use mathlib.Core.Path.{◌≡◌, sym, ap, ◌∙◌}
use Rattle.ground.specs.Answers.{tells}
use Rattle.ground.specs.declared.refusals.Refusal.{Refusal}
use Rattle.ground.specs.declared.said.SaidCode.{SaidCode}
use Rattle.fields.specs.Fields.{Field, QuantityOf}
use Rattle.fields.proofs.OneAnswer.{coding-one}
use Rattle.one_field.specs.Coding.{said_code_numbers, TellsCode}

pub tells-code-one : (f : Field) (x : QuantityOf f) (a b : Result SaidCode Refusal) → TellsCode f x a → TellsCode f x b → a ≡ b
tells-code-one f x a b p q = p.told ∙ ap (tells (said_code_numbers f)) (coding-one f x p.said q.said p.promise q.promise) ∙ sym q.told
