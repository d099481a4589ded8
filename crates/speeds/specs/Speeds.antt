-- Horizontal and vertical speed and their uncertainty, in metres per hour.
use Rattle.std.specs.Prelude.{◌≡◌, ℕ, ◌*◌, ◌≤◌, ℤ, Result, Option, Some, None}
use Rattle.ground.specs.Answers.{Said, Answer, said_of}
use Rattle.ground.specs.Signs.{signed}
use Rattle.ground.specs.Sets.{OfSign, LeastCode, GreatestCovered}
use Rattle.ground.specs.declared.quantity.MetresPerHour.{MetresPerHour}
use Rattle.ground.specs.declared.quantity.SignedMetresPerHour.{SignedMetresPerHour}
use Rattle.ground.specs.declared.code.HorizontalSpeedCode.{HorizontalSpeedCode}
use Rattle.ground.specs.declared.code.VerticalSpeedCode.{VerticalSpeedCode}
use Rattle.ground.specs.declared.code.UncertaintySpeedCode.{UncertaintySpeedCode}
use Rattle.ground.specs.Steps.{SpeedStep}
use Rattle.ground.specs.declared.refusals.Refusal.{Refusal}

-- Horizontal speed, 16 bits.
abbrev pub HorizontalSpeedSet : HorizontalSpeedCode → ℕ → Type 0
HorizontalSpeedSet c = SpeedStep 65535 c.0

-- 1000·N
pub record HorizontalSpeedReporting (c : HorizontalSpeedCode) (h : MetresPerHour) : Type 0 where
  pub code : c.0 ≤ 65535
  pub speed : h.0 ≡ 1000 * c.0

-- Vertical speed, D and N of 8 bits. D is down, and zero is up.
abbrev pub VerticalSpeedSet : VerticalSpeedCode → ℤ → Type 0
VerticalSpeedSet c = OfSign c.0 (SpeedStep 255 c.1)

-- 1000·N signed; down, N = 0: -1
pub record VerticalSpeedReporting (c : VerticalSpeedCode) (v : SignedMetresPerHour) : Type 0 where
  pub code : c.1 ≤ 255
  pub speed : v.0 ≡ signed c.0 (1000 * c.1)

-- Uncertainty speed: N covers every s ≤ 1000·N.
pub record SpeedCovers (N s : ℕ) : Type 0 where
  pub within : s ≤ 1000 * N

-- the least of the codes 0 to 254 that covers s; 255 means not given
abbrev pub UncertaintySpeedCodes : Option MetresPerHour → ℕ → Type 0
UncertaintySpeedCodes (Some s) N = LeastCode SpeedCovers 254 s.0 N
UncertaintySpeedCodes None N = N ≡ 255

-- above what the largest code covers
abbrev pub TooFast : Option MetresPerHour → Type 0
TooFast (Some s) = SpeedCovers 254 s.0 → ⊥
TooFast None = ⊥

abbrev pub UncertaintySpeedCoding : Option MetresPerHour → Said UncertaintySpeedCode → Type 0
UncertaintySpeedCoding u = Answer (λ c. UncertaintySpeedCodes u c.0) 8 (TooFast u)

-- the greatest speed that N covers, or none
abbrev pub UncertaintySpeedReporting : UncertaintySpeedCode → Option MetresPerHour → Type 0
UncertaintySpeedReporting c (Some s) = GreatestCovered SpeedCovers 254 c.0 s.0
UncertaintySpeedReporting c None = c.0 ≡ 255

abbrev pub CodedUncertaintySpeed : Option MetresPerHour → Result UncertaintySpeedCode Refusal → Type 0
CodedUncertaintySpeed u r = UncertaintySpeedCoding u (said_of r)
