-- A number, or the mark of a missing one.
use Rattle.std.specs.Prelude.{Some, None}
use mathlib.Core.Path.{refl}
use native.Mathlib.Omega.{arith}
use Rattle.fields.specs.Fields as field
use Rattle.wording.proofs.NumberLaws.{worded, reported}
use Rattle.text.proofs.WithinLaws.{within}
use Rattle.wording.proofs.velocity_text.put_uncertainty.Goals as goal

pub returns-in-Some : goal.returns-in-Some
returns-in-Some c = reported field.uncertainty_speed c.args.code (Some c.in-Some.speed) (omega arith) c.in-Some.ensures (worded {n = 21} (omega arith) refl c.put_natural.ensures)

pub returns-in-None : goal.returns-in-None
returns-in-None c = reported field.uncertainty_speed c.args.code None (omega arith) c.in-None.ensures (worded {n = 21} (omega arith) refl (within {most = 2} (omega arith) c.put_bytes.ensures))
