-- The reader's refusal, else the room.
use Rattle.std.proofs.lemmas.Result.{err_from_is_err_and}
use Rattle.array_reading.proofs.IntoLaws.{motion-refused, motion-short, motion-put}
use Rattle.array_reading.proofs.velocity.read_velocity.Goals as goal

pub returns-in_err-velocity : goal.returns-in_err-velocity
returns-in_err-velocity c =
    let p = err_from_is_err_and c.from_residual.result c.from_residual.ensures.1 in
    rw (p.1, p.2) (motion-refused _ c.in_err-velocity.ensures)

pub returns-then-codes-lt7 : goal.returns-then-codes-lt7
returns-then-codes-lt7 c = motion-short _ c.in_ok-velocity.ensures c.if-codes-lt7.true

pub returns : goal.returns
returns c = motion-put _ c.in_ok-velocity.ensures c.if-codes-lt7.false c.put_velocity.ensures
