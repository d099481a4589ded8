-- The line that is held; or the answers are written, and the next line is read.
use Rattle.std.proofs.Common.{T, sym, refl, ◌∙◌, subst, arith, rules}
use Rattle.streaming.specs.Outputs.{same, written, unread, answered, shut, none}
use Rattle.streaming.proofs.SeekLaws.{next-same}
use Rattle.streaming.proofs.output.next_line.Goals as goal

pub returns-then-input : goal.returns-then-input
returns-then-input c =
    let here = c.held_line-input.ensures in
    record {
      sound = here.sound;
      sound_output = search rules;
      same_count = refl;
      kept = same refl;
      prompt = unread refl here.same_source;
      line = λ _. here.line c.if-input.true;
      is_open = λ _. search rules;
      none = λ e. absurd (subst T (sym c.if-input.true ∙ e) tt);
    }

pub returns-then-is_closed : goal.returns-then-is_closed
returns-then-is_closed c =
    let here = c.held_line-input.ensures in
    let w = c.written-output.ensures in
    record {
      sound = here.sound;
      sound_output = record { answers = omega (arith, w.none_left) };
      same_count = w.same_count;
      kept = written w;
      prompt = answered w.none_left;
      line = λ e. absurd (subst T (sym e ∙ c.if-input.false) tt);
      is_open = λ e. absurd (subst T (sym e ∙ c.if-input.false) tt);
      none = λ e. shut (sym c.is_closed.ensures ∙ c.if-is_closed.true) refl here.same_source (here.same_taken e);
    }

pub returns : goal.returns
returns c =
    let here = c.held_line-input.ensures in
    let w = c.written-output.ensures in
    let n = next-same here.same_source (here.same_taken c.if-input.false) c.read_on-input.ensures in
    record {
      sound = n.sound;
      sound_output = record { answers = omega (arith, w.none_left) };
      same_count = w.same_count;
      kept = written w;
      prompt = answered w.none_left;
      line = n.line;
      is_open = λ _. sym c.is_closed.ensures ∙ c.if-is_closed.false;
      none = λ e. none (n.none e);
    }
