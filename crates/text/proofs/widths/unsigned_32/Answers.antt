-- What 64 bits can't hold, 32 can't.
use Rattle.std.proofs.Common.{pos, arith}
use Rattle.text.proofs.widths.unsigned_32.Goals as goal

pub returns-in_err-signed_64 : goal.returns-in_err-signed_64
returns-in_err-signed_64 c = rw c.from_residual.ensures (λ x m h. c.in_err-signed_64.ensures (pos x) m (record { fits = omega arith }))
