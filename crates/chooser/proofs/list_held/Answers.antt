-- The line is where the block has it, unless it is long.
use native.Mathlib.Omega.{arith}
use Rattle.request_lines.proofs.AskingLaws.{list_read, list-empty}
use Rattle.chooser.proofs.list_held.Goals as goal

pub returns-then-input : goal.returns-then-input
returns-then-input c = λ line l. record { says = λ short. absurd (omega (arith, short, l.long c.if-input.true)); too_long = λ _. c.no_list.ensures }

pub returns-in_default : goal.returns-in_default
returns-in_default c = λ line l. record {
  says = λ _. rw c.no_list-in_default.ensures (list-empty (rw (l.kept c.if-input.false, c.in_default.is) at c.list_in.ensures));
  too_long = λ long. c.no_list-in_default.ensures;
}

pub returns : goal.returns
returns c = λ line l. record {
  says = λ _. list_read (rw (l.kept c.if-input.false, c.in-Some.is) at c.list_in.ensures);
  too_long = λ long. absurd (omega (arith, long, l.short c.if-input.false));
}
