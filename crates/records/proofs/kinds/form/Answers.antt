-- A polygon's count by its law.
use mathlib.Core.Path.{refl}
use native.Mathlib.Omega.{arith}
use Rattle.ground.specs.Answers.{unmet, met}
use Rattle.records.proofs.FormLaws.{polygon-form}
use Rattle.records.proofs.kinds.form.Goals as goal

pub returns-then-count-lt3 : goal.returns-then-count-lt3
returns-then-count-lt3 c = polygon-form _ _ 4 c.in-Polygon.is (unmet (λ h. absurd (omega (arith, h.0))) refl)

pub returns-then-count-gt15 : goal.returns-then-count-gt15
returns-then-count-gt15 c = polygon-form _ _ 4 c.in-Polygon.is (unmet (λ h. absurd (omega (arith, h.1))) refl)

pub returns-else-count-gt15 : goal.returns-else-count-gt15
returns-else-count-gt15 c = polygon-form _ _ 0 c.in-Polygon.is (met (omega arith, omega arith) refl)
