-- The end of the line is in what was read, or nothing is taken.
use Rattle.std.proofs.Common.{◌∙◌, rules}
use Rattle.streaming.proofs.SeekLaws.{seek-start, next-found, next-from, held_found, held_none}
use Rattle.streaming.proofs.input.held_line.Goals as goal

pub returns-then-end-filled : goal.returns-then-end-filled
returns-then-end-filled c =
    let begun = c.started-input.ensures in
    let line = next-found (seek-start begun.not_long) (search rules) c.newline-end.ensures (search rules) c.cut.ensures in
    held_found (next-from begun line) c.cut.ensures.is_ready (c.cut.ensures.same_source ∙ begun.same_source)

pub returns : goal.returns
returns c = held_none c.started-input.ensures
