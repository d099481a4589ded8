-- The line is where the block has it, unless it is long.
use mathlib.Core.Path.{refl}
use native.Mathlib.Omega.{arith}
use Rattle.chooser.proofs.request_held.Goals as goal

pub returns-then-input : goal.returns-then-input
returns-then-input c = λ line l. record { asks = λ short. absurd (omega (arith, short, l.long c.if-input.true)); too_long = λ _. refl }

pub returns : goal.returns
returns c = λ line l. record {
  asks = λ _. rw (l.kept c.if-input.false) at c.request_in.ensures;
  too_long = λ long. absurd (omega (arith, long, l.short c.if-input.false));
}
