-- Fewer points than three by the law of that; the others by the laws that the function names.
use mathlib.Core.Path.{refl}
use native.Mathlib.Omega.{arith}
use Rattle.forming.proofs.AnswerKinds.{few}
use Rattle.forming.proofs.polygon.Goals as goal

pub returns-then-n-lt3 : goal.returns-then-n-lt3
returns-then-n-lt3 c = few _ _ _ (omega (arith, c.if-n-lt3.true)) refl
