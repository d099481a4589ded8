-- No number of 32 bits is no list.
use Rattle.text.proofs.SaysLaws.{unsigned-none}
use Rattle.request_lines.proofs.AskingLaws.{list-none}
use Rattle.request_lines.proofs.list_in.Goals as goal

pub returns-in_err-unsigned_32 : goal.returns-in_err-unsigned_32
returns-in_err-unsigned_32 c = rw c.from_residual.ensures (list-none (unsigned-none c.args.line.now c.number_in.ensures c.in_err-unsigned_32.was c.unsigned_32.ensures))
