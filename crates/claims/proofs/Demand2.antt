-- DEMAND 2 holds, for shapes and for velocities.
use Rattle.std.specs.Prelude.{Result, Ok}
use Prim.Native.Nat.{ℕ}
use mathlib.Core.Path.{◌≡◌, refl, ap, sym, subst, ◌∙◌}
use mathlib.Core.List.{List, ◌++◌}
use native.Mathlib.Omega.{arith}
use lib.ListN.{length, take, drop}
use lib.Seq.{take_at, drop_at}
use Rattle.ground.specs.declared.refusals.Refusal.{Refusal}
use Rattle.octets.specs.Bits.{bits}
use Rattle.layout.specs.Layout.{MessageField, Row, velocity_rows}
use Rattle.layout.specs.Rows.{length_of, spare_zero}
use Rattle.layout.specs.Demands.{ReadAnswer, WriteAnswer, Writes}
use Rattle.layout.specs.Messages.{in_row, IsMessage}
use Rattle.layout.specs.Shapes.{kind_in, rows_in, rows_of, value_of}
use Rattle.layout.specs.Velocities.{velocity_kind_in, velocity_rows_in, velocity_value_of}
use Rattle.layout.proofs.TidyLaws.{Tidy}
use Rattle.layout.proofs.KindLaws.{shape-tidy, velocity-tidy}
use Rattle.layout.proofs.DemandLaws.{readable, sound, write_done}
use Rattle.layout.proofs.JustOne.{spare-zero-is}
use Rattle.layout.proofs.ShapeTrips.{shape-taken, shape-again, shape-back}
use Rattle.layout.proofs.VelocityTrips.{velocity-taken, velocity-again, velocity-back}
use Rattle.claims.specs.Demand2.{Again, Demand2, shapes, velocities}
use Rattle.claims.proofs.ShapeReturns.{shape-however-often}
use Rattle.claims.proofs.VelocityReturns.{velocity-however-often}

-- a message that is read and written again, by the answer and the buffer
module _ (rows : List Row) (tidy : Tidy rows) (s : List ℕ) (read : ReadAnswer rows s 0) (before after : List ℕ) (w : Result ℕ Refusal) where
  written-again : w ≡ Ok (length s) → after ≡ spare_zero rows s ++ drop (length s) before → Again rows s before after w
  written-again taken put =
      let m = spare_zero rows s in
      let is = spare-zero-is rows tidy s in
      let long : length m ≡ length s = is.long ∙ sym (readable rows s read).long in
      record {
        answer = taken;
        message = subst (IsMessage rows (in_row s)) (sym (ap (take (length s)) put ∙ take_at m (drop (length s) before) (length s) long)) is;
        rest = ap (drop (length s)) put ∙ drop_at m (drop (length s) before) (length s) long;
      }

-- a record that is written is taken, whatever the room
pub taken-alone : (rows : List Row) (value : MessageField → ℕ) (before after : List ℕ) (n : ℕ) → Writes rows value before after (Ok n) → WriteAnswer rows value (length_of rows) 0
taken-alone rows value before after n writes = write_done rows value (length_of rows) (sound rows value (length before) writes.answer).0 (omega arith)

pub demand-2-shapes : Demand2 shapes
demand-2-shapes = record {
  again = λ s x reads before after w writes room.
      written-again (rows_in s) (shape-tidy (kind_in s) (bits s 4 4)) s reads.answer before after w (shape-taken s (Ok x) reads x refl before after w writes room) (shape-again s (Ok x) reads x refl before after w writes room);
  back = λ x whole before after n writes r reads. shape-back x before after (Ok n) n r whole writes refl reads;
  kept = λ x whole before after n writes order m r travels. shape-however-often x (taken-alone (rows_of x) (value_of x) before after n writes) order whole travels;
}

pub demand-2-velocities : Demand2 velocities
demand-2-velocities = record {
  again = λ s x reads before after w writes room.
      written-again (velocity_rows_in s) (velocity-tidy (velocity_kind_in s)) s reads.answer before after w (velocity-taken s (Ok x) reads x refl before after w writes room) (velocity-again s (Ok x) reads x refl before after w writes room);
  back = λ x whole before after n writes r reads. velocity-back x before after (Ok n) n r writes refl reads;
  kept = λ x whole before after n writes order m r travels. velocity-however-often x (taken-alone (velocity_rows x.kind) (velocity_value_of x) before after n writes) travels;
}
