-- Offset, included angle, orientation and bearing, in millidegrees.
use Rattle.std.specs.Prelude.{ℕ, ◌-◌, ◌*◌, ◌≤◌, Result}
use Rattle.ground.specs.Answers.{Said, Answer, said_of}
use Rattle.ground.specs.Counts.{angle_codes, bearing_codes}
use Rattle.ground.specs.Sets.{LeastOf, GreatestOf, Outside}
use Rattle.ground.specs.declared.quantity.Millidegrees.{Millidegrees}
use Rattle.ground.specs.declared.code.OffsetCode.{OffsetCode}
use Rattle.ground.specs.declared.code.IncludedCode.{IncludedCode}
use Rattle.ground.specs.declared.code.OrientationCode.{OrientationCode}
use Rattle.ground.specs.declared.code.BearingCode.{BearingCode}
use Rattle.ground.specs.Steps.{Step, UpperStep}
use Rattle.ground.specs.declared.refusals.Refusal.{Refusal}

-- ---- the sets: N from 0 to 179, for a bearing to 359

abbrev pub OffsetSet : OffsetCode → ℕ → Type 0
OffsetSet c = Step 2000 179 c.0

abbrev pub IncludedSet : IncludedCode → ℕ → Type 0
IncludedSet c = UpperStep 2000 179 c.0

abbrev pub OrientationSet : OrientationCode → ℕ → Type 0
OrientationSet c = Step 1000 179 c.0

abbrev pub BearingSet : BearingCode → ℕ → Type 0
BearingSet c = Step 1000 359 c.0

-- ---- codes: the one whose set holds the angle. 7: offset or bearing 360 degrees or more, orientation 180 or more, included 0 or above 360

abbrev pub OffsetCoding : Millidegrees → Said OffsetCode → Type 0
OffsetCoding a = Answer (λ c. OffsetSet c a.0) 7 (360000 ≤ a.0)

abbrev pub IncludedCoding : Millidegrees → Said IncludedCode → Type 0
IncludedCoding a = Answer (λ c. IncludedSet c a.0) 7 (Outside 1 360000 a.0)

abbrev pub OrientationCoding : Millidegrees → Said OrientationCode → Type 0
OrientationCoding a = Answer (λ c. OrientationSet c a.0) 7 (180000 ≤ a.0)

abbrev pub BearingCoding : Millidegrees → Said BearingCode → Type 0
BearingCoding a = Answer (λ c. BearingSet c a.0) 7 (360000 ≤ a.0)

-- ---- reports: the least angle of the set, of an included angle the greatest. 5: a code of 180 or more, of a bearing 360 or more

abbrev pub OffsetReporting : OffsetCode → Said Millidegrees → Type 0
OffsetReporting c = Answer (λ a. LeastOf (OffsetSet c) a.0) 5 (angle_codes ≤ c.0)

abbrev pub IncludedReporting : IncludedCode → Said Millidegrees → Type 0
IncludedReporting c = Answer (λ a. GreatestOf (IncludedSet c) a.0) 5 (angle_codes ≤ c.0)

abbrev pub OrientationReporting : OrientationCode → Said Millidegrees → Type 0
OrientationReporting c = Answer (λ a. LeastOf (OrientationSet c) a.0) 5 (angle_codes ≤ c.0)

abbrev pub BearingReporting : BearingCode → Said Millidegrees → Type 0
BearingReporting c = Answer (λ a. LeastOf (BearingSet c) a.0) 5 (bearing_codes ≤ c.0)

-- ---- what the functions answer

-- of steps of one unit
abbrev pub CodedStep : ℕ → ℕ → ℕ → Result ℕ Refusal → Type 0
CodedStep unit steps a r = Answer (λ N. Step unit (steps - 1) N a) 7 (unit * steps ≤ a) (said_of r)

abbrev pub ReportedStep : ℕ → ℕ → ℕ → Result Millidegrees Refusal → Type 0
ReportedStep unit steps N r = Answer (λ a. LeastOf (Step unit (steps - 1) N) a.0) 5 (steps ≤ N) (said_of r)

abbrev pub CodedOffset : Millidegrees → Result OffsetCode Refusal → Type 0
CodedOffset a r = OffsetCoding a (said_of r)

abbrev pub CodedIncluded : Millidegrees → Result IncludedCode Refusal → Type 0
CodedIncluded a r = IncludedCoding a (said_of r)

abbrev pub CodedOrientation : Millidegrees → Result OrientationCode Refusal → Type 0
CodedOrientation a r = OrientationCoding a (said_of r)

abbrev pub CodedBearing : Millidegrees → Result BearingCode Refusal → Type 0
CodedBearing a r = BearingCoding a (said_of r)

abbrev pub ReportedOffset : OffsetCode → Result Millidegrees Refusal → Type 0
ReportedOffset c r = OffsetReporting c (said_of r)

abbrev pub ReportedIncluded : IncludedCode → Result Millidegrees Refusal → Type 0
ReportedIncluded c r = IncludedReporting c (said_of r)

abbrev pub ReportedOrientation : OrientationCode → Result Millidegrees Refusal → Type 0
ReportedOrientation c r = OrientationReporting c (said_of r)

abbrev pub ReportedBearing : BearingCode → Result Millidegrees Refusal → Type 0
ReportedBearing c r = BearingReporting c (said_of r)
