-- The list is taken from the first line, if there is one.
use mathlib.Core.Path.{sym, subst, ◌∙◌}
use mathlib.Core.List.{[]}
use Rattle.streaming.proofs.AnswerLaws.{none-taken, line_taken, empty-output, still-empty, begun, none-of-run}
use Rattle.chooser.specs.Choosing.{Heads, nothing, listed}
use borrow.Author.Tests.{not-true, not-false}
use Rattle.chooser.proofs.answer_input.Goals as goal

pub next_line-first-requires : goal.next_line-first-requires
next_line-first-requires c =
    let e = empty-output [] c.no_output-output.ensures in
    record { sound_input = (none-taken [] c.no_input-input.ensures).0; sound_output = e.sound; closed_value = e.is_open }

pub returns-then-not-line : goal.returns-then-not-line
returns-then-not-line c =
    let t = (none-taken _ c.no_input-input.ensures).1 in
    let e = empty-output _ c.no_output-output.ensures in
    let n = c.next_line-first.ensures in
    record {
      list = 0;
      first = [];
      stopped = none-of-run (begun t e) e.is_open n (not-true _ c.if-not-line.true);
      heads = subst (Heads 0 []) (sym (n.same_count ∙ e.none)) nothing;
    }

pub answer_lines-requires : goal.answer_lines-requires
answer_lines-requires c =
    let n = c.next_line-first.ensures in
    record { sound_input = n.sound; sound_output = n.sound_output; closed_value = n.is_open (not-false _ c.if-not-line.false) }

pub returns : goal.returns
returns c =
    let n = c.next_line-first.ensures in
    let ready = not-false _ c.if-not-line.false in
    let l = n.line ready in
    let e = still-empty (empty-output _ c.no_output-output.ensures) n.kept n.same_count n.sound_output (n.is_open ready) in
    record {
      list = c.list_held-list.result;
      first = _;
      stopped = c.answer_lines.ensures _ _ (line_taken (none-taken _ c.no_input-input.ensures).1 l) (record { put = e.put; count = e.none });
      heads = listed (c.list_held-list.ensures _ l.is);
    }
