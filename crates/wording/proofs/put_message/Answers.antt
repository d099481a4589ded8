-- By the kind.
use native.Mathlib.Omega.{arith}
use Rattle.wording.proofs.NumberLaws.{worded}
use Rattle.wording.proofs.MessageLaws.{other-kind}
use Rattle.wording.proofs.put_message.Goals as goal

pub returns : goal.returns
returns c =
    worded (omega arith) (other-kind c.args.kind c.args.m.now (λ e. absurd (omega arith))) c.put_velocity.ensures
