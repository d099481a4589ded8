-- By the choice: the message that it left in its buffer, or its refusal.
use Rattle.std.specs.Prelude.{Ok, Err}
use Rattle.chooser.proofs.ChosenLaws.{none-put, chosen-put}
use borrow.Author.Rules.{rules}
use Rattle.chooser.proofs.put_chosen.Goals as goal

pub returns-in_default : goal.returns-in_default
returns-in_default c = none-put c.in_default.is c.put_answer.ensures (search rules)

pub returns-in-Ok-choose : goal.returns-in-Ok-choose
returns-in-Ok-choose c = chosen-put (Ok c.in-Ok-choose.length) c.in-Ok.is c.in-Ok-choose.ensures c.put_answer-in-Ok-choose.ensures (search rules)

pub returns-in-Err : goal.returns-in-Err
returns-in-Err c = chosen-put (Err c.in-Err.why) c.in-Ok.is c.in-Err.ensures c.put_answer-in-Err.ensures (search rules)
