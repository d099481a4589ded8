-- What the three amounts make is what the three fields say; where one says nothing, none is said.
use native.Mathlib.Omega.{arith}
use Rattle.text.specs.LineFields.{field_at}
use Rattle.request_lines.proofs.AskingLaws.{horizontal-read}
use Rattle.request_lines.proofs.request.horizontal_in.Goals as goal

pub returns : goal.returns
returns c = λ line e. rw c.horizontal_of.ensures
    (horizontal-read (field_at line 3) (field_at line 4) (field_at line 5) c.amount_of-semi_major.result c.amount_of-semi_minor.result c.amount_of-orientation.result
    (c.amount_of-semi_major.ensures (field_at line 3) (e.each 3 (omega arith))) (c.amount_of-semi_minor.ensures (field_at line 4) (e.each 4 (omega arith))) (c.amount_of-orientation.ensures (field_at line 5) (e.each 5 (omega arith))))
