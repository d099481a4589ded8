-- The elements are put where there is room, and only there.
use Rattle.std.specs.Prelude.{Ok, Err}
use mathlib.Core.Path.{refl}
use native.Mathlib.Omega.{arith}
use Rattle.ground.specs.declared.refusals.Refusal.TheVariants.{BufferTooShort}
use Rattle.code_arrays.proofs.PutLaws.{no_room, has_room, puts-by}
use Rattle.library.proofs.velocity_calls.put_quantities.Goals as goal

pub returns-then-out-lt-QUANTITIES : goal.returns-then-out-lt-QUANTITIES
returns-then-out-lt-QUANTITIES c = rw c.in-Ok.is (puts-by {outcome = Ok tt} {left = Err BufferTooShort} (no_room 6 _ (omega arith)) c.answer.ensures refl)

pub returns-else-out-lt-QUANTITIES : goal.returns-else-out-lt-QUANTITIES
returns-else-out-lt-QUANTITIES c = rw c.in-Ok.is (puts-by {outcome = Ok tt} {left = Ok tt} (has_room 6 _ (omega arith)) c.answer-in-Ok.ensures c.put_velocity_quantities.ensures)

pub returns-in-Err : goal.returns-in-Err
returns-in-Err c = rw c.in-Err.is (record { answer = c.answer-in-Err.ensures; array = refl })
