-- The sign's digit, between a 0 and the number.
use Rattle.std.proofs.Common.{arith}
use Rattle.text.specs.AnswerLines.{sign_text}
use Rattle.text.proofs.WithinLaws.{within}
use Rattle.text.proofs.answer_lines.put_sign.Goals as goal

pub returns-then-sign : goal.returns-then-sign
unfolding sign_text
returns-then-sign c = rw c.if-sign.true (within (omega arith) c.put_bytes.ensures)

pub returns : goal.returns
unfolding sign_text
returns c = rw c.if-sign.false (within (omega arith) c.put_bytes-2.ensures)
