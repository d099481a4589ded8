-- The run stands where the lines so far are answered; each turn answers one more.
use Rattle.std.proofs.Common.{ℕ, ◌+◌, sym, ap, ◌∙◌}
use Rattle.streaming.proofs.AnswerLaws.{none-taken, empty-output, begun, goes_kept, one_more, none-of-run, is-closed, too_many}
use borrow.Author.Tests.{not-true, not-false}
use borrow.Author.Rules.{rules}
use Rattle.coder.proofs.answer_lines.Goals as goal

pub loop-init : goal.loop-init
loop-init c =
    let n = none-taken _ c.no_input-input.ensures in
    let e = empty-output _ c.no_output-output.ensures in
    (e.none, n.0, e.sound, e.is_open, begun n.1 e)

pub returns-then-not-input : goal.returns-then-not-input
returns-then-not-input c = none-of-run c.loop.invariant.4 c.loop.invariant.3 c.next_line-next.ensures (not-true _ c.if-not-input.true)

pub returns-then-is_closed : goal.returns-then-is_closed
returns-then-is_closed c =
    let n = c.next_line-next.ensures in
    let ready = not-false _ c.if-not-input.false in
    is-closed (one_more (goes_kept c.loop.invariant.4 c.loop.invariant.3 n.same_count n.kept) (n.line ready) c.answer_line-output.ensures) c.answer_line-output.ensures.sound (sym c.is_closed.ensures ∙ c.if-is_closed.true)

pub loop-preserved : goal.loop-preserved
loop-preserved c =
    let n = c.next_line-next.ensures in
    let ready = not-false _ c.if-not-input.false in (
      c.answer_line-output.ensures.count ∙ ap (λ (k : ℕ). k + 1) (n.same_count ∙ c.loop.invariant.0),
      n.sound,
      c.answer_line-output.ensures.sound,
      sym c.is_closed.ensures ∙ c.if-is_closed.false,
      one_more (goes_kept c.loop.invariant.4 c.loop.invariant.3 n.same_count n.kept) (n.line ready) c.answer_line-output.ensures,
    )

pub returns : goal.returns
returns c = too_many c.loop.invariant.4 c.loop.invariant.2 (search rules)
