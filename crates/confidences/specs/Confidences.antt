-- Confidence: 1 to 100 per cent; 0 none; 101 and above not used.
use Rattle.std.specs.Prelude.{◌≡◌, ℕ, ◌≤◌, Result, Option, Some, None}
use Rattle.ground.specs.Answers.{Said, Answer, said_of}
use Rattle.ground.specs.Counts.{confidence_codes}
use Rattle.ground.specs.Sets.{Outside}
use Rattle.ground.specs.declared.code.ConfidenceCode.{ConfidenceCode}
use Rattle.ground.specs.declared.refusals.Refusal.{Refusal}
use Rattle.ground.specs.declared.quantity.PerCent.{PerCent}

-- a code stands for itself in per cent, and 0 for a missing one
pub record InPerCent (N p : ℕ) : Type 0 where
  pub itself : N ≡ p
  pub least : 1 ≤ p
  pub most : p ≤ 100

abbrev pub ConfidenceSet : ConfidenceCode → Option PerCent → Type 0
ConfidenceSet c (Some p) = InPerCent c.0 p.0
ConfidenceSet c None = c.0 ≡ 0

-- asked outside 1..100
abbrev pub NoPerCent : Option PerCent → Type 0
NoPerCent (Some p) = Outside 1 100 p.0
NoPerCent None = ⊥

abbrev pub ConfidenceCoding : Option PerCent → Said ConfidenceCode → Type 0
ConfidenceCoding q = Answer (λ c. ConfidenceSet c q) 7 (NoPerCent q)

abbrev pub ConfidenceReporting : ConfidenceCode → Said (Option PerCent) → Type 0
ConfidenceReporting c = Answer (ConfidenceSet c) 6 (confidence_codes ≤ c.0)

abbrev pub CodedConfidence : Option PerCent → Result ConfidenceCode Refusal → Type 0
CodedConfidence q r = ConfidenceCoding q (said_of r)

abbrev pub ReportedConfidence : ConfidenceCode → Result (Option PerCent) Refusal → Type 0
ReportedConfidence c r = ConfidenceReporting c (said_of r)
