-- `one_field::reporting::reported_byte` meets its contract: a number above 8 bits is refused, and what may be missing is told as it is.
use mathlib.Core.Path.{◌≡◌, sym, ap, ◌∙◌}
use native.Mathlib.Omega.{arith}
use Rattle.std.specs.Prelude.{Result, Ok, Err, Option, Some, None, MatchOption, MatchResult, IsOkAnd}
use Rattle.ground.proofs.AnswerLaws.{refusal-back}
use Rattle.ground.specs.Answers.{done, said_of, tells}
use Rattle.ground.specs.declared.refusals.Refusal.{Refusal}
use Rattle.ground.specs.declared.quantity.MetresPerHour.{MetresPerHour}
use Rattle.ground.specs.declared.quantity.PerCent.{PerCent}
use Rattle.ground.specs.declared.said.SaidQuantity.{SaidQuantity}
use Rattle.ground.specs.declared.said.SaidQuantity.TheVariants.{Natural, Missing}
use Rattle.one_field.specs.Reporting.{said_uncertainty_speed_number, said_confidence_number}
use Rattle.one_field.proofs.AboveLaws.{above-byte}
use Rattle.one_field.proofs.reporting.reported_byte.Goals as goal

speed-told : (x : Option MetresPerHour) (said : SaidQuantity) → MatchOption x (said ≡ Missing) (λ q. said ≡ Natural q.0) → said ≡ said_uncertainty_speed_number x
speed-told (Some s) said h = h
speed-told None said h = h

confidence-told : (x : Option PerCent) (said : SaidQuantity) → MatchOption x (said ≡ Missing) (λ q. said ≡ Natural q.0) → said ≡ said_confidence_number x
confidence-told (Some p) said h = h
confidence-told None said h = h

mapped : (q : Result (Option PerCent) Refusal) (r : Result SaidQuantity Refusal) → MatchResult q (λ x. IsOkAnd r (λ said. MatchOption x (said ≡ Missing) (λ p. said ≡ Natural p.0))) (λ e. r ≡ Err e) → r ≡ tells said_confidence_number (said_of q)
mapped (Ok x) (Ok said) h = ap Ok (confidence-told x said h)
mapped (Ok x) (Err why) h = absurd h
mapped (Err why) r h = h ∙ sym (ap Err (refusal-back why))

pub returns-in_default : goal.returns-in_default
returns-in_default c = rw c.above_byte.ensures (above-byte c.args.field c.args.n (omega (arith, c.in_default.ensures)))

pub returns-in-UncertaintySpeed : goal.returns-in-UncertaintySpeed
returns-in-UncertaintySpeed c =
    let e : c.in-Ok.n ≡ c.args.n = c.in-Ok.ensures.1 in
    rw (c.in-UncertaintySpeed.is, ← e)
    (record { said = done c.reported_uncertainty_speed.result; promise = c.reported_uncertainty_speed.ensures; told = ap Ok (speed-told _ _ c.from.ensures) })

pub returns-in-Confidence : goal.returns-in-Confidence
returns-in-Confidence c =
    let e : c.in-Ok.n ≡ c.args.n = c.in-Ok.ensures.1 in
    rw (c.in-Confidence.is, ← e)
    (record { said = said_of c.reported_confidence.result; promise = c.reported_confidence.ensures; told = mapped _ _ c.map-in-Confidence.ensures.cases })
