-- Longitude codes: N, signed, of 24 bits.
use Rattle.std.specs.Prelude.{cond, ℕ, ◌*◌, ◌^◌, ◌≤◌, ◌<◌, eqb, ℤ, pos, negsuc, nat_abs, ◌+ℤ◌, ◌*ℤ◌, ◌≤ℤ◌, ◌<ℤ◌, Result}
use Rattle.std.specs.Int.Signed.{mag}
use Rattle.ground.specs.Answers.{Said, Answer, said_of}
use Rattle.ground.specs.Sets.{LowestOf}
use Rattle.ground.specs.declared.quantity.Nanodegrees.{Nanodegrees}
use Rattle.ground.specs.declared.code.LongitudeCode.{LongitudeCode}
use Rattle.ground.specs.declared.refusals.Refusal.{Refusal}

-- N ≤ 2^w·y / 360 degrees < N + 1. A degree is `degree` of the units of y.
pub record TurnStep (w degree : ℕ) (N y : ℤ) : Type 0 where
  pub from : (N *ℤ pos (360 * degree)) ≤ℤ (y *ℤ pos (2 ^ w))
  pub below : (y *ℤ pos (2 ^ w)) <ℤ ((N +ℤ pos 1) *ℤ pos (360 * degree))

-- +180 degrees is the meridian of -180
abbrev pub meridian : ℤ → ℤ
meridian (pos n) = cond (eqb n 180000000000) (negsuc 179999999999) (pos n)
meridian (negsuc n) = negsuc n

-- N of 24 bits, -2^23 ≤ N < 2^23 (`mag` is n of both n and -(n + 1)), and nanodegrees
pub record LongitudeSet (N x : ℤ) : Type 0 where
  pub bits : mag N < 8388608
  pub step : TurnStep 24 1000000000 N (meridian x)

-- the code whose set holds x; 7: beyond 180 degrees either way
abbrev pub LongitudeCoding : Nanodegrees → Said LongitudeCode → Type 0
LongitudeCoding x = Answer (λ c. LongitudeSet c.0 x.0) 7 (180000000000 < nat_abs x.0)

-- the least whole nanodegree in the set; 7: N of more than 24 bits
abbrev pub LongitudeReporting : LongitudeCode → Said Nanodegrees → Type 0
LongitudeReporting c = Answer (λ x. LowestOf (LongitudeSet c.0) x.0) 7 (8388608 ≤ mag c.0)

-- ---- what the functions answer

abbrev pub CodedLongitude : Nanodegrees → Result LongitudeCode Refusal → Type 0
CodedLongitude x r = LongitudeCoding x (said_of r)

abbrev pub ReportedLongitude : LongitudeCode → Result Nanodegrees Refusal → Type 0
ReportedLongitude c r = LongitudeReporting c (said_of r)
