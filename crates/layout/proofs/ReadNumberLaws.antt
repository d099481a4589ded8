-- The answer that is worked out is the one that reading promises.
use Prim.Native.Nat.{ℕ, ◌^◌, ◌≤◌, ◌<◌}
use mathlib.Core.Path.{◌≡◌, refl, subst}
use mathlib.Core.Bool.{Bool, true, false, cond, ◌&&◌}
use mathlib.Core.List.{List}
use native.Mathlib.Omega.{arith}
use lib.Dec.{T, eqb, leb, ltb}
use lib.ListN.{length}
use borrow.Author.Tests.{eqb-true, eqb-false, leb-true, leb-false, ltb-true, ltb-false}
use Rattle.ground.specs.Answers.{Unless, met, unmet}
use Rattle.layout.specs.Layout.{MessageField, Row}
use Rattle.layout.specs.Layout as layout
use Rattle.layout.specs.Rows.{width_of, read, length_of}
use Rattle.layout.specs.Demands.{Used, CountSound, AnglesSound, ReadAnswer}
use Rattle.layout.proofs.TidyLaws.{both, read-in-fields}
use Rattle.layout.specs.ReadNumbers.{read_number}
use Rattle.layout.proofs.OneMessage.{read-answer-one}

tested : (P : Type 0) (b : Bool) (n m : ℕ) (others : ℕ → Type 0) → (b ≡ true → P) → (b ≡ false → P → ⊥) → others m → Unless P n others (cond b m n)
tested P true n m others holds fails o = met (holds refl) o
tested P false n m others holds fails o = unmet (fails refl) refl

-- a part of a test that fails
one-fails : (a b : Bool) (P Q : Type 0) → (a ≡ false → P → ⊥) → (b ≡ false → Q → ⊥) → a && b ≡ false → P → Q → ⊥
one-fails true b P Q f g e p q = g e q
one-fails false b P Q f g e p q = f refl p

module _ (rows : List Row) (s : List ℕ) where
  -- a bound on what may not be used
  unused-low : (f : MessageField) (most : ℕ) → 0 < most → ltb (read s rows f) most ≡ false → (Used rows f → read s rows f < most) → ⊥
  unused-low f most some e h = by (ltb 0 (width_of rows f)) refl
    where
      high : most ≤ read s rows f
      high = ltb-false (read s rows f) most e

      by : (b : Bool) → ltb 0 (width_of rows f) ≡ b → ⊥
      by true u = let l = h (ltb-true 0 (width_of rows f) u) in omega (arith, high)
      by false u =
          let z : width_of rows f ≤ 0 = ltb-false 0 (width_of rows f) u in
          let w : width_of rows f ≡ 0 = omega arith in
          let l : read s rows f < 2 ^ 0 = rw w at ((read-in-fields s rows).each f) in
          omega (arith, high)

  count-holds : (b : Bool) → eqb (width_of rows layout.count) 0 ≡ b → cond b true (leb 3 (read s rows layout.count) && leb (read s rows layout.count) 15) ≡ true → CountSound rows (read s rows)
  count-holds true w e = let z = eqb-true (width_of rows layout.count) 0 w in record { least = λ u. absurd (omega arith); most = λ u. absurd (omega arith) }
  count-holds false w e = let t = both _ _ e in record { least = λ u. leb-true 3 (read s rows layout.count) t.0; most = λ u. leb-true (read s rows layout.count) 15 t.1 }

  count-fails : (b : Bool) → eqb (width_of rows layout.count) 0 ≡ b → cond b true (leb 3 (read s rows layout.count) && leb (read s rows layout.count) 15) ≡ false → CountSound rows (read s rows) → ⊥
  count-fails true w e h = absurd (subst T e tt)
  count-fails false w e h =
      let z : width_of rows layout.count ≡ 0 → ⊥ = eqb-false (width_of rows layout.count) 0 w in
      one-fails (leb 3 (read s rows layout.count)) (leb (read s rows layout.count) 15) (3 ≤ read s rows layout.count) (read s rows layout.count ≤ 15)
      (λ f l. let g = leb-false 3 (read s rows layout.count) f in omega arith) (λ f l. let g = leb-false (read s rows layout.count) 15 f in omega arith) e (h.least (omega arith)) (h.most (omega arith))

  -- what is demanded of an angle or a confidence
  abbrev Below : MessageField → ℕ → Type 0
  Below f most = Used rows f → read s rows f < most

  below_holds : (f : MessageField) (most : ℕ) → ltb (read s rows f) most ≡ true → Below f most
  below_holds f most e u = ltb-true (read s rows f) most e

  angles-hold : (ltb (read s rows layout.orientation) 180 && (ltb (read s rows layout.offset) 180 && (ltb (read s rows layout.included) 180 && ltb (read s rows layout.bearing) 360))) ≡ true → AnglesSound rows (read s rows)
  angles-hold e =
      let a = both _ _ e in
      let b = both _ _ a.1 in
      let c = both _ _ b.1 in
      record { orientations = below_holds layout.orientation 180 a.0; offsets = below_holds layout.offset 180 b.0; includeds = below_holds layout.included 180 c.0; bearings = below_holds layout.bearing 360 c.1 }

  angles-fail : (ltb (read s rows layout.orientation) 180 && (ltb (read s rows layout.offset) 180 && (ltb (read s rows layout.included) 180 && ltb (read s rows layout.bearing) 360))) ≡ false → AnglesSound rows (read s rows) → ⊥
  angles-fail e h =
      one-fails _ _ (Below layout.orientation 180) (Below layout.offset 180 × (Below layout.included 180 × Below layout.bearing 360)) (unused-low layout.orientation 180 (omega arith))
      (λ f q. one-fails _ _ (Below layout.offset 180) (Below layout.included 180 × Below layout.bearing 360) (unused-low layout.offset 180 (omega arith))
      (λ g r. one-fails _ _ (Below layout.included 180) (Below layout.bearing 360) (unused-low layout.included 180 (omega arith)) (unused-low layout.bearing 360 (omega arith)) g r.0 r.1)
      f q.0 q.1)
      e h.orientations (h.offsets, (h.includeds, h.bearings))

  pub read_number_lem : ReadAnswer rows s (read_number rows s)
  unfolding read_number
  read_number_lem =
      tested _ (ltb 0 (length s)) 1 _ _ (ltb-true 0 (length s)) (λ e h. let l = ltb-false 0 (length s) e in absurd (omega arith))
      (tested _ (ltb 0 (length_of rows)) 2 _ _ (ltb-true 0 (length_of rows)) (λ e h. let l = ltb-false 0 (length_of rows) e in absurd (omega arith))
      (tested _ _ 4 _ _ (count-holds (eqb (width_of rows layout.count) 0) refl) (count-fails (eqb (width_of rows layout.count) 0) refl)
      (tested _ (eqb (length s) (length_of rows)) 3 _ _ (eqb-true (length s) (length_of rows)) (eqb-false (length s) (length_of rows))
      (tested _ _ 5 _ _ angles-hold angles-fail
      (tested _ (ltb (read s rows layout.confidence) 101) 6 _ _ (λ e. record { confidences = below_holds layout.confidence 101 e }) (λ e h. unused-low layout.confidence 101 (omega arith) e h.confidences) refl)))))

  pub read-number-is : (n : ℕ) → ReadAnswer rows s n → n ≡ read_number rows s
  read-number-is n a = read-answer-one rows s n (read_number rows s) a read_number_lem
