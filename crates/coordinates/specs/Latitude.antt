-- Latitude codes: a sign, and N of 23 bits.
use Rattle.std.specs.Prelude.{ℕ, ◌+◌, ◌*◌, ◌^◌, ◌≤◌, ◌<◌, ℤ, nat_abs, Result}
use Rattle.ground.specs.Answers.{Said, Answer, said_of}
use Rattle.ground.specs.Sets.{OfSign, NearestOf}
use Rattle.ground.specs.declared.quantity.Nanodegrees.{Nanodegrees}
use Rattle.ground.specs.declared.code.LatitudeCode.{LatitudeCode}
use Rattle.ground.specs.declared.refusals.Refusal.{Refusal}

-- N of w bits: N ≤ 2^w·a / 90 degrees < N + 1, and for N = 2^w - 1 also 90 degrees. A degree is `degree` of the units of a.
pub record LatitudeStep (w degree N a : ℕ) : Type 0 where
  pub bits : N < 2 ^ w
  pub from : N * (90 * degree) ≤ 2 ^ w * a
  pub below : N + 1 < 2 ^ w → 2 ^ w * a < (N + 1) * (90 * degree)
  pub range : a ≤ 90 * degree

-- S and N: nanodegrees, S = 1 south. Zero belongs to north only.
abbrev pub LatitudeSet : LatitudeCode → ℤ → Type 0
LatitudeSet c = OfSign c.0 (LatitudeStep 23 1000000000 c.1)

-- the code whose set holds x; 7: beyond 90 degrees either way
abbrev pub LatitudeCoding : Nanodegrees → Said LatitudeCode → Type 0
LatitudeCoding x = Answer (λ c. LatitudeSet c x.0) 7 (90000000000 < nat_abs x.0)

-- the whole nanodegree of least absolute value in the set; 7: N of more than 23 bits
abbrev pub LatitudeReporting : LatitudeCode → Said Nanodegrees → Type 0
LatitudeReporting c = Answer (λ x. NearestOf (LatitudeSet c) x.0) 7 (8388608 ≤ c.1)

-- ---- what the functions answer

abbrev pub CodedLatitude : Nanodegrees → Result LatitudeCode Refusal → Type 0
CodedLatitude x r = LatitudeCoding x (said_of r)

abbrev pub ReportedLatitude : LatitudeCode → Result Nanodegrees Refusal → Type 0
ReportedLatitude c r = LatitudeReporting c (said_of r)
