-- The line is where the block has it, unless it is long.
use native.Mathlib.Omega.{arith}
use Rattle.coder.proofs.said.Goals as goal

pub returns : goal.returns
returns c = λ line l. record {
  answers = λ _. rw (l.kept c.if-input.false) at c.answer.ensures;
  too_long = λ long. absurd (omega (arith, long, l.short c.if-input.false));
}
