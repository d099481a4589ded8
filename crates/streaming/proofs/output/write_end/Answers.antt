-- A closed output stays as it is; where a read failed the answers alone are written.
use Rattle.std.proofs.Common.{T, sym, refl, ◌∙◌, subst, append-nil}
use Rattle.streaming.proofs.OutputLaws.{put_written, put-closed}
use Rattle.streaming.proofs.output.write_end.Goals as goal

pub returns-then-is_closed : goal.returns-then-is_closed
returns-then-is_closed c =
    let shut = sym c.is_closed.ensures ∙ c.if-is_closed.true in
    record {
      same_input = refl;
      same_count = refl;
      stays_closed = λ e. e;
      none_left = λ e. absurd (subst T (sym shut ∙ e) tt);
      text = λ t p. put-closed _ shut p;
    }

pub returns-then-is_failed : goal.returns-then-is_failed
returns-then-is_failed c =
    let on = sym c.is_closed.ensures ∙ c.if-is_closed.false in
    let lost = sym c.is_failed.ensures ∙ c.if-is_failed.true in
    record {
      same_input = refl;
      same_count = c.written-output.ensures.same_count;
      stays_closed = λ e. absurd (subst T (sym e ∙ on) tt);
      none_left = λ _. c.written-output.ensures.none_left;
      text = λ t p. rw (lost, append-nil) (put_written on p c.written-output.ensures);
    }

pub returns : goal.returns
returns c =
    let on = sym c.is_closed.ensures ∙ c.if-is_closed.false in
    let whole = sym c.is_failed.ensures ∙ c.if-is_failed.false in
    record {
      same_input = refl;
      same_count = c.end_written-output.ensures.same_count;
      stays_closed = λ e. absurd (subst T (sym e ∙ on) tt);
      none_left = c.end_written-output.ensures.none_left;
      text = λ t p. rw whole (c.end_written-output.ensures.text t p);
    }
