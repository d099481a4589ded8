-- The search stands where reads in a row and what was dropped brought it.
use Rattle.std.proofs.Common.{sym, ◌∙◌, rules}
use Rattle.streaming.proofs.SeekLaws.{seek-start, seek-turn, next-found, next_last, next-many, next-failed, next-from}
use Rattle.streaming.proofs.input.read_line.Goals as goal

pub loop-init : goal.loop-init
loop-init c = (c.started-input.ensures.sound, c.started-input.ensures.not_ready, seek-start c.started-input.ensures.not_long, search rules)

pub returns-then-end-filled : goal.returns-then-end-filled
returns-then-end-filled c =
    next-from c.started-input.ensures (next-found c.loop.invariant.2 (search rules) c.newline-end.ensures (search rules) c.cut.ensures)

pub returns-then-is_failed : goal.returns-then-is_failed
returns-then-is_failed c = next-from c.started-input.ensures (next-failed c.loop.invariant.2 (search rules) c.loop.invariant.1 (sym c.is_failed.ensures ∙ c.if-is_failed.true))

pub returns-then-is_over : goal.returns-then-is_over
returns-then-is_over c =
    next-from c.started-input.ensures (next_last c.loop.invariant.2 (search rules) (search rules) c.loop.invariant.1 c.newline-end.ensures (search rules) (sym c.is_over.ensures ∙ c.if-is_over.true) c.last_line.ensures)

pub loop-preserved : goal.loop-preserved
loop-preserved c = (
  c.refilled-input.ensures.sound,
  c.refilled-input.ensures.same_ready ∙ c.shortened.ensures.same_ready ∙ c.loop.invariant.1,
  seek-turn c.loop.invariant.2 (search rules) (search rules) c.newline-end.ensures (search rules) (sym c.is_over.ensures ∙ c.if-is_over.false) c.shortened.ensures c.refilled-input.ensures,
  search rules,
)

pub returns : goal.returns
returns c = next-from c.started-input.ensures (next-many c.loop.invariant.2 (search rules) c.loop.invariant.1 (search rules))
