-- Room is made, and the answer put.
use mathlib.Core.Path.{ap, subst}
use Prim.Native.Nat.{ℕ, ◌+◌}
use Rattle.chooser.specs.Choosing.{AnswerTo}
use Rattle.streaming.proofs.OutputLaws.{put-answer}
use borrow.Author.Rules.{rules}
use Rattle.chooser.proofs.answer_line.Goals as goal

pub returns : goal.returns
returns c =
    let room = c.make_room-output.ensures in
    let put = c.put_chosen.ensures in
    record {
      text = put.text;
      answer = λ line l. record {
        asked = c.request_held-asked.result;
        asks = c.request_held-asked.ensures line l;
        is = subst (λ (n : ℕ). AnswerTo c.args.list (n + 1) c.request_held-asked.result put.text) room.same_count put.is;
      };
      put = put-answer _ c.requires.closed_value room.kept put.puts.puts put.inside;
      count = ap (λ (n : ℕ). n + 1) room.same_count;
      sound = search rules;
    }
