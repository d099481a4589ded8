-- What is demanded where the answer is 0, and the answer 0 where all is met.
use Prim.Native.Nat.{ℕ, ◌<◌, ◌≤◌}
use mathlib.Core.Path.{◌≡◌, refl}
use mathlib.Core.List.{List}
use native.Mathlib.Omega.{arith}
use lib.ListN.{length}
use Rattle.ground.specs.Answers.{Unless, met}
use Rattle.ground.proofs.AnswerLaws.{when-done}
use Rattle.layout.specs.Layout.{MessageField, Row}
use Rattle.layout.specs.Rows.{read, length_of}
use Rattle.layout.specs.Demands.{TypeKnown, CountSound, AnglesSound, ConfidenceSound, ReadAnswer, WriteAnswer, Sound}

-- a message that is read
pub record Readable (rows : List Row) (s : List ℕ) : Type 0 where
  pub some : 0 < length s
  pub listed : TypeKnown rows
  pub counted : CountSound rows (read s rows)
  pub long : length s ≡ length_of rows
  pub angles : AnglesSound rows (read s rows)
  pub sure : ConfidenceSound rows (read s rows)

next : (demand : Type 0) (n : ℕ) (others : ℕ → Type 0) → 0 < n → Unless demand n others 0 → demand × others 0
next demand n others h = when-done demand n others (λ e. absurd (omega arith))

module _ (rows : List Row) where
  pub readable : (s : List ℕ) → ReadAnswer rows s 0 → Readable rows s
  readable s a =
      let b = next _ 1 _ (omega arith) a in
      let c = next _ 2 _ (omega arith) b.1 in
      let d = next _ 4 _ (omega arith) c.1 in
      let e = next _ 3 _ (omega arith) d.1 in
      let f = next _ 5 _ (omega arith) e.1 in
      let g = next _ 6 _ (omega arith) f.1 in
      record { some = b.0; listed = c.0; counted = d.0; long = e.0; angles = f.0; sure = g.0 }

  pub read_done : (s : List ℕ) → Readable rows s → ReadAnswer rows s 0
  read_done s r = met r.some (met r.listed (met r.counted (met r.long (met r.angles (met r.sure refl)))))

  pub sound : (value : MessageField → ℕ) (room : ℕ) → WriteAnswer rows value room 0 → Sound rows value × (length_of rows ≤ room)
  sound value room a =
      let b = next _ 2 _ (omega arith) a in
      let c = next _ 4 _ (omega arith) b.1 in
      let d = next _ 5 _ (omega arith) c.1 in
      let e = next _ 6 _ (omega arith) d.1 in
      let f = next _ 7 _ (omega arith) e.1 in
      let g = next _ 10 _ (omega arith) f.1 in
      (record { listed = b.0; counted = c.0; angles = d.0; sure = e.0; fields = f.0 }, g.0)

  pub write_done : (value : MessageField → ℕ) (room : ℕ) → Sound rows value → length_of rows ≤ room → WriteAnswer rows value room 0
  write_done value room s h = met s.listed (met s.counted (met s.angles (met s.sure (met s.fields (met h refl)))))
