-- The two uncertainty codes, K from 0 to 127, in whole millimetres.
use Rattle.std.specs.Prelude.{ℕ, ◌<◌, Result}
use Rattle.ground.specs.Answers.{Said, Answer, said_of}
use Rattle.ground.specs.Sets.{LeastCode, GreatestCovered}
use Rattle.ground.specs.declared.quantity.Millimetres.{Millimetres}
use Rattle.ground.specs.declared.code.UncertaintyCode.{UncertaintyCode}
use Rattle.ground.specs.declared.code.AltitudeUncertaintyCode.{AltitudeUncertaintyCode}
use Rattle.ground.specs.declared.refusals.Refusal.{Refusal}
use Rattle.radii.specs.Covering.{Covers}

-- r(K) = 10000·((11/10)^K - 1)
abbrev pub RadiusCovers : ℕ → ℕ → Type 0
RadiusCovers = Covers 10000 11 10

-- h(K) = 45000·((41/40)^K - 1)
abbrev pub HeightCovers : ℕ → ℕ → Type 0
HeightCovers = Covers 45000 41 40

-- the least K that covers R; 8: not even 127 does
abbrev pub UncertaintyCoding : Millimetres → Said UncertaintyCode → Type 0
UncertaintyCoding R = Answer (λ K. LeastCode RadiusCovers 127 R.0 K.0) 8 (RadiusCovers 127 R.0 → ⊥)

abbrev pub AltitudeUncertaintyCoding : Millimetres → Said AltitudeUncertaintyCode → Type 0
AltitudeUncertaintyCoding R = Answer (λ K. LeastCode HeightCovers 127 R.0 K.0) 8 (HeightCovers 127 R.0 → ⊥)

-- the whole part, which is the greatest whole millimetre that K covers; 7: no code of 7 bits
abbrev pub UncertaintyReporting : UncertaintyCode → Said Millimetres → Type 0
UncertaintyReporting K = Answer (λ R. GreatestCovered RadiusCovers 127 K.0 R.0) 7 (127 < K.0)

abbrev pub AltitudeUncertaintyReporting : AltitudeUncertaintyCode → Said Millimetres → Type 0
AltitudeUncertaintyReporting K = Answer (λ R. GreatestCovered HeightCovers 127 K.0 R.0) 7 (127 < K.0)

-- ---- what the functions answer

abbrev pub CodedUncertainty : Millimetres → Result UncertaintyCode Refusal → Type 0
CodedUncertainty R r = UncertaintyCoding R (said_of r)

abbrev pub CodedAltitudeUncertainty : Millimetres → Result AltitudeUncertaintyCode Refusal → Type 0
CodedAltitudeUncertainty R r = AltitudeUncertaintyCoding R (said_of r)

abbrev pub ReportedUncertainty : UncertaintyCode → Result Millimetres Refusal → Type 0
ReportedUncertainty K r = UncertaintyReporting K (said_of r)

abbrev pub ReportedAltitudeUncertainty : AltitudeUncertaintyCode → Result Millimetres Refusal → Type 0
ReportedAltitudeUncertainty K r = AltitudeUncertaintyReporting K (said_of r)
