-- Room is made, and the text of what is said put.
use mathlib.Core.Path.{ap}
use Prim.Native.Nat.{ℕ, ◌+◌}
use Rattle.text.specs.AnswerLines.{line_text}
use Rattle.streaming.proofs.OutputLaws.{put-answer}
use borrow.Author.Rules.{rules}
use Rattle.coder.proofs.answer_line.Goals as goal

pub returns : goal.returns
returns c =
    let room = c.make_room-output.ensures in
    record {
      text = _;
      answer = λ line l. record { said = c.said.result; prints = c.said.ensures line l; is = ap (λ (n : ℕ). line_text (n + 1) c.said.result) room.same_count };
      put = put-answer _ c.requires.closed_value room.kept c.put_line.ensures.puts (search rules);
      count = ap (λ (n : ℕ). n + 1) room.same_count;
      sound = search rules;
    }
