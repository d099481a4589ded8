-- Altitude and inner radius, in millimetres.
use Rattle.std.specs.Prelude.{ℕ, ◌<◌, ℤ, Result}
use Rattle.ground.specs.Answers.{Said, Answer, said_of}
use Rattle.ground.specs.Sets.{OfSign, LeastOf, NearestOf}
use Rattle.ground.specs.declared.quantity.Millimetres.{Millimetres}
use Rattle.ground.specs.declared.quantity.SignedMillimetres.{SignedMillimetres}
use Rattle.ground.specs.declared.code.AltitudeCode.{AltitudeCode}
use Rattle.ground.specs.declared.code.InnerRadiusCode.{InnerRadiusCode}
use Rattle.ground.specs.Steps.{OpenStep}
use Rattle.ground.specs.declared.refusals.Refusal.{Refusal}

-- Altitude, D and N of 15 bits: 1000·N ≤ abs(a) < 1000·(N + 1), 32767 also all greater. D is depth, and zero is height.
abbrev pub AltitudeSet : AltitudeCode → ℤ → Type 0
AltitudeSet c = OfSign c.0 (OpenStep 1000 32767 c.1)

-- the altitude of least absolute value in the set; 7: N of more than 15 bits
abbrev pub AltitudeReporting : AltitudeCode → Said SignedMillimetres → Type 0
AltitudeReporting c = Answer (λ a. NearestOf (AltitudeSet c) a.0) 7 (32767 < c.1)

abbrev pub ReportedAltitude : AltitudeCode → Result SignedMillimetres Refusal → Type 0
ReportedAltitude c r = AltitudeReporting c (said_of r)

-- Inner radius, 16 bits: 5000·N ≤ r < 5000·(N + 1), 65535 also all greater.
abbrev pub InnerRadiusSet : InnerRadiusCode → ℕ → Type 0
InnerRadiusSet c = OpenStep 5000 65535 c.0

abbrev pub InnerRadiusReporting : InnerRadiusCode → Millimetres → Type 0
InnerRadiusReporting c r = LeastOf (InnerRadiusSet c) r.0
