-- None of the places that the loop has passed is a space.
use Rattle.std.proofs.Common.{below_more, arith}
use Rattle.text.proofs.MarkLaws.{none-then-first}
use Rattle.text.proofs.marks.field_end.Goals as goal

pub loop-place-init : goal.loop-place-init
loop-place-init c = record { none = λ k h l. absurd (omega arith) }

pub loop-place-preserved : goal.loop-place-preserved
loop-place-preserved c = record { none = below_more _ _ c.loop-place.invariant.none (λ _. c.if-line-place-eq32.false) }

pub returns : goal.returns
returns c = none-then-first (record { none = λ k h l. c.loop-place.invariant.none k (omega arith) l }) (omega arith) c.first_mark.ensures
