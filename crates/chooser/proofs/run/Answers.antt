-- The lines are answered, and the last line written.
use Prim.Native.Nat.{ℕ}
use mathlib.Core.Path.{sym, subst}
use Rattle.chooser.specs.Choosing.{Heads}
use Rattle.streaming.proofs.AnswerLaws.{ran}
use Rattle.chooser.proofs.run.Goals as goal

pub returns : goal.returns
returns c =
    let s = c.answer_input-answered.ensures in
    record { list = s.list; first = s.first; ran = ran s.stopped c.write_end.ensures; heads = subst (λ (n : ℕ). Heads s.list s.first n) (sym c.write_end.ensures.same_count) s.heads }
