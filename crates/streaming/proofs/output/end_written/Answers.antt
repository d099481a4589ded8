-- What is left is written with the last line behind it; after a write that failed nothing is.
use Rattle.std.proofs.Common.{T, sym, ◌∙◌, subst, rules}
use Rattle.text.specs.AnswerLines.{end_text}
use Rattle.streaming.proofs.OutputLaws.{put-kept, put-closed, put-end}
use Rattle.streaming.proofs.output.end_written.Goals as goal

pub returns-then-is_closed : goal.returns-then-is_closed
returns-then-is_closed c =
    let on = c.requires.closed_value in
    let shut = sym c.is_closed.ensures ∙ c.if-is_closed.true in
    record {
      same_count = c.make_room-left.ensures.same_count;
      none_left = λ e. absurd (subst T (sym shut ∙ e) tt);
      text = λ t p. put-closed (end_text c.args.output.answered) shut (put-kept on p c.make_room-left.ensures.kept);
    }

pub returns : goal.returns
returns c =
    let on = c.requires.closed_value in
    let still-on = sym c.is_closed.ensures ∙ c.if-is_closed.false in
    record {
      same_count = c.written.ensures.same_count ∙ c.make_room-left.ensures.same_count;
      none_left = λ _. c.written.ensures.none_left;
      text = put-end on c.make_room-left.ensures.kept c.make_room-left.ensures.same_count still-on c.put_end.ensures.puts (search rules) c.written.ensures;
    }
