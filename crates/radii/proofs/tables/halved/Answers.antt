-- `radii::tables::halved` meets its contract: the last entry of the row in the middle says which half has the first place.
use mathlib.Core.Path.{◌≡◌, subst}
use Prim.Native.Nat.{ℕ, ◌+◌, ◌*◌, ◌-◌, ◌≤◌}
use native.Mathlib.Nat.{lt_of_le_of_lt}
use native.Mathlib.Omega.{arith}
use lib.ListN.{get_or}
use Rattle.radii.proofs.RowLaws.{last_of}
use Rattle.radii.specs.Tables.{entries_in}
use Rattle.radii.proofs.TableLaws.{rises}
use Rattle.radii.proofs.tables.halved.Goals as goal

pub returns-then-last-x : goal.returns-then-last-x
returns-then-last-x c =
    let a = c.args in
    let h = c.requires in
    let e : 8 * a.row + (16 * a.half - 1) ≡ 8 * (a.row + a.half) + (8 * a.half - 1) = omega (arith, h.some) in
    record {
      place = omega (arith, h.among.place, h.some);
      here = subst (λ (k : ℕ). a.x ≤ get_or (entries_in a.table) k 0) e h.among.here;
      none = λ j l. lt_of_le_of_lt (rises a.table j _ (omega arith) (omega (arith, h.among.place, h.some))) (rw (last_of c.row_of-last.ensures) at c.if-last-x.true);
    }

pub returns : goal.returns
returns c =
    let a = c.args in
    let h = c.requires in
    let e : 8 * (a.row + a.half - 1) + 7 ≡ 8 * a.row + (8 * a.half - 1) = omega (arith, h.some) in
    record {
      place = omega (arith, h.among.place);
      here = subst (λ (k : ℕ). a.x ≤ get_or (entries_in a.table) k 0) e (rw (last_of c.row_of-last.ensures) at c.if-last-x.false);
      none = h.among.none;
    }
