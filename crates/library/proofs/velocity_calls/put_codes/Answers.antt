-- The elements are put where there is room, and only there.
use Rattle.std.specs.Prelude.{Ok, Err}
use mathlib.Core.Path.{refl}
use native.Mathlib.Omega.{arith}
use Rattle.ground.specs.declared.refusals.Refusal.TheVariants.{BufferTooShort}
use Rattle.code_arrays.proofs.PutLaws.{no_room, has_room, puts-by}
use Rattle.library.proofs.velocity_calls.put_codes.Goals as goal

pub returns-then-codes-lt-CODES : goal.returns-then-codes-lt-CODES
returns-then-codes-lt-CODES c = rw c.in-Ok.is (puts-by {outcome = Ok tt} {left = Err BufferTooShort} (no_room 7 _ (omega arith)) c.answer.ensures refl)

pub returns-else-codes-lt-CODES : goal.returns-else-codes-lt-CODES
returns-else-codes-lt-CODES c = rw c.in-Ok.is (puts-by {outcome = Ok tt} {left = Ok tt} (has_room 7 _ (omega arith)) c.answer-in-Ok.ensures c.put_velocity.ensures)

pub returns-in-Err : goal.returns-in-Err
returns-in-Err c = rw c.in-Err.is (record { answer = c.answer-in-Err.ensures; array = refl })
