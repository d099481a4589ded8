-- One answer: coding a quantity says one thing, and reporting a code says one thing, for every field.
use Rattle.std.specs.Prelude.{Option, Some, None}
use mathlib.Core.Path.{◌≡◌, refl, sym, ap, ◌∙◌}
use mathlib.Core.Bool.{Bool}
use Prim.Native.Nat.{ℕ, ◌≤◌, ◌<◌}
use native.Mathlib.Omega.{arith}
use lib.IntN.{ℤ}
use Rattle.ground.specs.Answers.{Said}
use Rattle.ground.proofs.AnswerLaws.{one_answer}
use Rattle.ground.proofs.SetLaws.{not-inside}
use Rattle.ground.specs.Steps.{OpenStep, SpeedStep}
use Rattle.ground.specs.declared.code.UncertaintySpeedCode.{UncertaintySpeedCode}
use Rattle.ground.specs.declared.code.ConfidenceCode.{ConfidenceCode}
use Rattle.ground.specs.declared.quantity.PerCent.{PerCent}
use Rattle.ground.specs.declared.quantity.MetresPerHour.{MetresPerHour}
use Rattle.speeds.specs.Speeds.{UncertaintySpeedReporting}
use Rattle.confidences.specs.Confidences.{ConfidenceSet}
use Rattle.radii.proofs.CoverLaws.{covers_up}
use Rattle.coordinates.specs.Latitude.{LatitudeStep}
use Rattle.fields.specs.Fields.{Field, CodeOf, QuantityOf, Coding, Reporting}
use Rattle.fields.specs.Fields as field
use Rattle.fields.proofs.StepLaws.{step-one, open-one, upper-one, speed-one, latitude-one}
use Rattle.fields.proofs.SetLaws.{least-of-one, greatest-of-one, signed-one, nearest-one, least-code-one, covered_one}
use Rattle.fields.proofs.LongitudeLaws.{longitude-one, lowest-one, in-range}

speed-reported-one : (c : UncertaintySpeedCode) (x y : Option MetresPerHour) → UncertaintySpeedReporting c x → UncertaintySpeedReporting c y → x ≡ y
speed-reported-one c (Some s) (Some t) p q = ap (λ (n : ℕ). Some (record { 0 = n })) (covered_one p q)
speed-reported-one c (Some s) None p q = absurd (omega (arith, p.code))
speed-reported-one c None (Some t) p q = absurd (omega (arith, q.code))
speed-reported-one c None None p q = refl

speed-apart : (c : UncertaintySpeedCode) (x : Option MetresPerHour) → UncertaintySpeedReporting c x → 255 < c.0 → ⊥
speed-apart c (Some s) p h = omega (arith, p.code)
speed-apart c None p h = omega arith

confidence-reported-one : (c : ConfidenceCode) (x y : Option PerCent) → ConfidenceSet c x → ConfidenceSet c y → x ≡ y
confidence-reported-one c (Some m) (Some n) p q = ap (λ (k : ℕ). Some (record { 0 = k })) (sym p.itself ∙ q.itself)
confidence-reported-one c (Some m) None p q = absurd (omega (arith, p.itself, p.least))
confidence-reported-one c None (Some n) p q = absurd (omega (arith, q.itself, q.least))
confidence-reported-one c None None p q = refl

confidence-apart : (c : ConfidenceCode) (x : Option PerCent) → ConfidenceSet c x → 101 ≤ c.0 → ⊥
confidence-apart c (Some n) p h = omega (arith, p.itself, p.most)
confidence-apart c None p h = omega arith

pub coding-one : (f : Field) (x : QuantityOf f) (a b : Said (CodeOf f)) → Coding f x a → Coding f x b → a ≡ b
coding-one field.latitude x = one_answer _ 7 _ (λ c d p q. signed-one (λ (s : Bool) (N : ℕ). record { 0 = s; 1 = N }) (LatitudeStep 23 1000000000) (latitude-one 23 1000000000) p q) (λ c p h. omega arith)
coding-one field.longitude x = one_answer _ 7 _ (λ c d p q. ap (λ (N : ℤ). record { 0 = N }) (longitude-one c.0 d.0 x.0 p q)) (λ c p h. omega (arith, in-range c.0 x.0 p))
coding-one field.uncertainty x = one_answer _ 8 _ (λ c d p q. ap (λ (n : ℕ). record { 0 = n }) (least-code-one p q)) (λ c p h. h (covers_up (omega arith) 127 p.code p.covered))
coding-one field.altitude_uncertainty x = one_answer _ 8 _ (λ c d p q. ap (λ (n : ℕ). record { 0 = n }) (least-code-one p q)) (λ c p h. h (covers_up (omega arith) 127 p.code p.covered))
coding-one field.altitude x = one_answer _ 0 _ (λ c d p q. signed-one (λ (s : Bool) (N : ℕ). record { 0 = s; 1 = N }) (OpenStep 1000 32767) (open-one 1000 32767) p q) (λ c p h. h)
coding-one field.inner_radius x = one_answer _ 0 _ (λ c d p q. ap (λ (n : ℕ). record { 0 = n }) (open-one 5000 65535 c.0 d.0 x.0 p q)) (λ c p h. h)
coding-one field.offset x = one_answer _ 7 _ (λ c d p q. ap (λ (n : ℕ). record { 0 = n }) (step-one 2000 179 c.0 d.0 x.0 p q)) (λ c p h. omega arith)
coding-one field.included x = one_answer _ 7 _ (λ c d p q. ap (λ (n : ℕ). record { 0 = n }) (upper-one 2000 179 c.0 d.0 x.0 p q)) (λ c p h. not-inside h (omega arith) (omega arith))
coding-one field.orientation x = one_answer _ 7 _ (λ c d p q. ap (λ (n : ℕ). record { 0 = n }) (step-one 1000 179 c.0 d.0 x.0 p q)) (λ c p h. omega arith)
coding-one field.bearing x = one_answer _ 7 _ (λ c d p q. ap (λ (n : ℕ). record { 0 = n }) (step-one 1000 359 c.0 d.0 x.0 p q)) (λ c p h. omega arith)
coding-one field.horizontal_speed x = one_answer _ 0 _ (λ c d p q. ap (λ (n : ℕ). record { 0 = n }) (speed-one 65535 c.0 d.0 x.0 p q)) (λ c p h. h)
coding-one field.vertical_speed x = one_answer _ 0 _ (λ c d p q. signed-one (λ (s : Bool) (N : ℕ). record { 0 = s; 1 = N }) (SpeedStep 255) (speed-one 255) p q) (λ c p h. h)
coding-one field.uncertainty_speed (Some s) = one_answer _ 8 _ (λ c d p q. ap (λ (n : ℕ). record { 0 = n }) (least-code-one p q)) (λ c p h. h (record { within = omega (arith, p.covered.within) }))
coding-one field.uncertainty_speed None = one_answer _ 8 _ (λ c d p q. ap (λ (n : ℕ). record { 0 = n }) (p ∙ sym q)) (λ c p h. h)
coding-one field.confidence (Some n) = one_answer _ 7 _ (λ c d p q. ap (λ (n : ℕ). record { 0 = n }) (p.itself ∙ sym q.itself)) (λ c p h. not-inside h p.least p.most)
coding-one field.confidence None = one_answer _ 7 _ (λ c d p q. ap (λ (n : ℕ). record { 0 = n }) (p ∙ sym q)) (λ c p h. h)

pub reporting-one : (f : Field) (c : CodeOf f) (a b : Said (QuantityOf f)) → Reporting f c a → Reporting f c b → a ≡ b
reporting-one field.latitude c = one_answer _ 7 _ (λ x y p q. ap (λ (z : ℤ). record { 0 = z }) (nearest-one p q)) (λ x p h. omega (arith, p.member.size.bits))
reporting-one field.longitude c = one_answer _ 7 _ (λ x y p q. ap (λ (z : ℤ). record { 0 = z }) (lowest-one p q)) (λ x p h. omega (arith, p.member.bits))
reporting-one field.uncertainty c = one_answer _ 7 _ (λ x y p q. ap (λ (n : ℕ). record { 0 = n }) (covered_one p q)) (λ x p h. omega (arith, p.code))
reporting-one field.altitude_uncertainty c = one_answer _ 7 _ (λ x y p q. ap (λ (n : ℕ). record { 0 = n }) (covered_one p q)) (λ x p h. omega (arith, p.code))
reporting-one field.altitude c = one_answer _ 7 _ (λ x y p q. ap (λ (z : ℤ). record { 0 = z }) (nearest-one p q)) (λ x p h. omega (arith, p.member.size.code))
reporting-one field.inner_radius c = one_answer _ 7 _ (λ x y p q. ap (λ (n : ℕ). record { 0 = n }) (least-of-one p q)) (λ x p h. omega (arith, p.member.code))
reporting-one field.offset c = one_answer _ 5 _ (λ x y p q. ap (λ (n : ℕ). record { 0 = n }) (least-of-one p q)) (λ x p h. omega (arith, p.member.code))
reporting-one field.included c = one_answer _ 5 _ (λ x y p q. ap (λ (n : ℕ). record { 0 = n }) (greatest-of-one p q)) (λ x p h. omega (arith, p.member.code))
reporting-one field.orientation c = one_answer _ 5 _ (λ x y p q. ap (λ (n : ℕ). record { 0 = n }) (least-of-one p q)) (λ x p h. omega (arith, p.member.code))
reporting-one field.bearing c = one_answer _ 5 _ (λ x y p q. ap (λ (n : ℕ). record { 0 = n }) (least-of-one p q)) (λ x p h. omega (arith, p.member.code))
reporting-one field.horizontal_speed c = one_answer _ 7 _ (λ x y p q. ap (λ (n : ℕ). record { 0 = n }) (p.speed ∙ sym q.speed)) (λ x p h. omega (arith, p.code))
reporting-one field.vertical_speed c = one_answer _ 7 _ (λ x y p q. ap (λ (z : ℤ). record { 0 = z }) (p.speed ∙ sym q.speed)) (λ x p h. omega (arith, p.code))
reporting-one field.uncertainty_speed c = one_answer _ 7 _ (speed-reported-one c) (speed-apart c)
reporting-one field.confidence c = one_answer _ 6 _ (confidence-reported-one c) (confidence-apart c)
