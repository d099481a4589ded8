-- 9, 10 or the message of the kind that is found.
use native.Mathlib.Omega.{arith}
use Rattle.choice.specs.Writing.{no_kind, no_room, written}
use Rattle.choice.proofs.write_best.Goals as goal

pub returns-in_default : goal.returns-in_default
returns-in_default c = no_kind (rw c.in_default.is at c.best_kind.ensures)

pub returns-then-out-length : goal.returns-then-out-length
returns-then-out-length c = no_room (rw c.in-Some.is at c.best_kind.ensures) (omega (arith, c.if-out-length.true, c.message_length-length.ensures))

pub returns : goal.returns
returns c = rw (c.message_length-length.ensures, c.store_choice.ensures) (written (rw c.in-Some.is at c.best_kind.ensures) (omega (arith, c.if-out-length.false, c.message_length-length.ensures)))
