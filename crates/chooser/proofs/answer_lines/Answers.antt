-- The run stands where the lines behind the first are answered; each turn answers one more.
use Rattle.std.proofs.Common.{ℕ, ◌+◌, sym, refl, ap, ◌∙◌}
use Rattle.streaming.proofs.AnswerLaws.{begun, goes_kept, one_more, none-of-run, is-closed, too_many}
use borrow.Author.Tests.{not-true, not-false}
use borrow.Author.Rules.{rules}
use Rattle.chooser.proofs.answer_lines.Goals as goal

pub loop-init : goal.loop-init
loop-init c = (
  refl,
  search rules,
  search rules,
  search rules,
  λ first start t e. begun t (record { sound = search rules; is_open = search rules; none = e.count; put = e.put }),
)

pub returns-then-not-input : goal.returns-then-not-input
returns-then-not-input c = λ first start t e. none-of-run (c.loop.invariant.4 first start t e) c.loop.invariant.3 c.next_line-next.ensures (not-true _ c.if-not-input.true)

pub returns-then-is_closed : goal.returns-then-is_closed
returns-then-is_closed c =
    let n = c.next_line-next.ensures in
    let ready = not-false _ c.if-not-input.false in
    λ first start t e.
    is-closed (one_more (goes_kept (c.loop.invariant.4 first start t e) c.loop.invariant.3 n.same_count n.kept) (n.line ready) c.answer_line-output.ensures) c.answer_line-output.ensures.sound (sym c.is_closed.ensures ∙ c.if-is_closed.true)

pub loop-preserved : goal.loop-preserved
loop-preserved c =
    let n = c.next_line-next.ensures in
    let ready = not-false _ c.if-not-input.false in (
      c.answer_line-output.ensures.count ∙ ap (λ (k : ℕ). k + 1) (n.same_count ∙ c.loop.invariant.0),
      n.sound,
      c.answer_line-output.ensures.sound,
      sym c.is_closed.ensures ∙ c.if-is_closed.false,
      λ first start t e. one_more (goes_kept (c.loop.invariant.4 first start t e) c.loop.invariant.3 n.same_count n.kept) (n.line ready) c.answer_line-output.ensures,
    )

pub returns : goal.returns
returns c = λ first start t e. too_many (c.loop.invariant.4 first start t e) c.loop.invariant.2 (search rules)
