-- The lines are answered, and the last line written.
use Rattle.streaming.proofs.AnswerLaws.{ran}
use Rattle.coder.proofs.run.Goals as goal

pub returns : goal.returns
returns c = ran c.answer_lines-answered.ensures c.write_end.ensures
