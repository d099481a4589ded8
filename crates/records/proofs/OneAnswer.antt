-- One answer of `form`: its demands are looked at in order, which leaves one number.
use Rattle.std.specs.Prelude.{Result}
use Prim.Native.Nat.{ℕ}
use mathlib.Core.Path.{◌≡◌}
use Rattle.ground.specs.Answers.{outcome_number}
use Rattle.ground.proofs.AnswerLaws.{unless-one, zero_one, promised-one}
use Rattle.ground.specs.declared.refusals.Refusal.{Refusal}
use Rattle.layout.specs.declared.shape.Kind.{Kind}
use Rattle.records.specs.Kinds.{QuantitiesFormAnswer}

pub quantities-form-one : (k : Kind) (n : ℕ) (r q : Result Unit Refusal) → QuantitiesFormAnswer k n (outcome_number r) → QuantitiesFormAnswer k n (outcome_number q) → r ≡ q
quantities-form-one k n = promised-one (QuantitiesFormAnswer k n) (unless-one _ 2 _ (unless-one _ 4 _ zero_one))
