-- ONE ANSWER of reporting and coding a velocity, and THE TRIP, as for shapes.
use Rattle.std.specs.Prelude.{Result, Ok, Err}
use Prim.Native.Nat.{ℕ, ◌≤◌}
use mathlib.Core.Path.{◌≡◌, refl, sym, ap, subst, ◌∙◌}
use mathlib.Core.List.{List, ◌++◌}
use native.Mathlib.Omega.{arith}
use lib.ListN.{length, drop}
use Rattle.ground.specs.Answers.{number_of}
use Rattle.ground.proofs.AnswerLaws.{not-0, value-told}
use Rattle.ground.specs.declared.refusals.Refusal.{Refusal}
use Rattle.layout.specs.declared.velocity.VelocityKind.{VelocityKind}
use Rattle.layout.specs.declared.velocity.Velocity.{Velocity}
use Rattle.layout.specs.Layout.{velocity_rows}
use Rattle.layout.specs.Layout as layout
use Rattle.layout.specs.Rows.{length_of, spare_zero}
use Rattle.layout.specs.Demands.{Used, Sound, WriteAnswer}
use Rattle.layout.specs.Velocities.{velocity_rows_in, velocity_value_of, ReadsVelocity, WritesVelocity}
use Rattle.layout.proofs.DemandLaws.{sound}
use Rattle.layout.proofs.OneMessage.{write-answer-one}
use Rattle.layout.proofs.WidthLaws.{velocity-width}
use Rattle.layout.proofs.VelocityTrips.{velocity-taken, velocity-accepted, velocity-again}
use Rattle.quantities.specs.declared.velocity.VelocityQuantities.{VelocityQuantities}
use Rattle.quantities.specs.Places.{Place, bearing, horizontal_speed, vertical_speed, speed_uncertainty, vertical_uncertainty}
use Rattle.quantities.specs.Promises.{EachCoded, CodeAnswer}
use Rattle.quantities.specs.Velocities.{velocity_code_at, velocity_quantity_at, VelocityQuantitiesOf, ReportsVelocity, VelocityRecordOf, CodesVelocity, TakesVelocity}
use Rattle.quantities.proofs.UnusedLaws.{unused-motion}
use Rattle.claims.specs.Travels.{Then, VelocityTravels, stays, goes}
use Rattle.claims.proofs.PlaceLaws.{reported-same, coded-same, code-answer-one, coded-back, answer_back}

-- ---- a record is told by its codes, and quantities by theirs

same-velocity : (x y : Velocity) → x.kind ≡ y.kind → ((p : Place) → velocity_code_at x p ≡ velocity_code_at y p) → x ≡ y
same-velocity x y k same = λ j. record {
  kind = k j;
  bearing = same bearing j;
  horizontal_speed = same horizontal_speed j;
  vertical_speed = same vertical_speed j;
  uncertainty = same speed_uncertainty j;
  vertical_uncertainty = same vertical_uncertainty j;
}

pub reported-one : (x : Velocity) (q r : VelocityQuantities) → VelocityQuantitiesOf x q → VelocityQuantitiesOf x r → q ≡ r
reported-one x q r a b =
    let same = reported-same (velocity_rows x.kind) (velocity_code_at x) (velocity_quantity_at q) (velocity_quantity_at r) a.each b.each in
    λ j. record {
      kind = (a.kinds ∙ sym b.kinds) j;
      bearing = same bearing j;
      horizontal_speed = same horizontal_speed j;
      vertical_speed = same vertical_speed j;
      uncertainty = same speed_uncertainty j;
      vertical_uncertainty = same vertical_uncertainty j;
    }

pub coded-one : (q : VelocityQuantities) (x y : Velocity) → VelocityRecordOf q x → VelocityRecordOf q y → x ≡ y
coded-one q x y a b = same-velocity x y (a.kinds ∙ sym b.kinds) (coded-same (velocity_rows q.kind) (velocity_quantity_at q) (velocity_code_at x) (velocity_code_at y) a.each b.each)

-- ---- one answer

pub reports-velocity-one : (x : Velocity) (a b : Result VelocityQuantities Refusal) → ReportsVelocity x a → ReportsVelocity x b → a ≡ b
reports-velocity-one x a b p q =
    let rows = velocity_rows x.kind in
    value-told (WriteAnswer rows (velocity_value_of x) (length_of rows)) (write-answer-one rows (velocity_value_of x) (length_of rows)) (VelocityQuantitiesOf x) (reported-one x) a b p.answer q.answer p.quantities q.quantities

pub codes-velocity-one : (q : VelocityQuantities) (a b : Result Velocity Refusal) → CodesVelocity q a → CodesVelocity q b → a ≡ b
codes-velocity-one q a b r s =
    value-told (CodeAnswer (velocity_rows q.kind) 0 (velocity_quantity_at q)) (code-answer-one (velocity_rows q.kind) 0 (velocity_quantity_at q)) (VelocityRecordOf q) (coded-one q) a b r.answer s.answer r.velocity s.velocity

-- ---- the trip

-- no velocity has axes
no-axes : (k : VelocityKind) → Used (velocity_rows k) layout.semi_minor → Used (velocity_rows k) layout.semi_major
no-axes k u = let w = velocity-width k layout.semi_minor in absurd (omega arith)

module _ (x : Velocity) (can : TakesVelocity x) where
  can-sound : Sound (velocity_rows x.kind) (velocity_value_of x)
  can-sound = (sound (velocity_rows x.kind) (velocity_value_of x) (length_of (velocity_rows x.kind)) can).0

  module _ (q : VelocityQuantities) (reported : VelocityQuantitiesOf x q) where
    answer : CodeAnswer (velocity_rows q.kind) 0 (velocity_quantity_at q) 0
    answer =
        subst (λ (k : VelocityKind). CodeAnswer (velocity_rows k) 0 (velocity_quantity_at q) 0) (sym reported.kinds)
        (answer_back (velocity_rows x.kind) (velocity_code_at x) (velocity_quantity_at q) reported.each (unused-motion x can-sound.fields) (no-axes x.kind) (omega arith) 0
        can-sound.listed
        (record { least = can-sound.counted.least; most = can-sound.counted.most })
        (λ e. refl))

    record-back : (y : Velocity) → VelocityRecordOf q y → y ≡ x
    record-back y a =
        same-velocity y x (a.kinds ∙ reported.kinds)
        (coded-back (velocity_rows x.kind) (velocity_code_at x) (velocity_quantity_at q) reported.each (unused-motion x can-sound.fields) (velocity_code_at y)
        (subst (λ (k : VelocityKind). EachCoded (velocity_rows k) (velocity_quantity_at q) (velocity_code_at y)) reported.kinds a.each))

    -- coded, they are that record
    record-coded : (c : Result Velocity Refusal) → CodesVelocity q c → c ≡ Ok x
    record-coded (Ok y) s = ap Ok (record-back y s.velocity)
    record-coded (Err why) s = absurd (not-0 why (code-answer-one (velocity_rows q.kind) 0 (velocity_quantity_at q) (number_of why) 0 s.answer answer))

  -- reported and coded, it is that record
  pub velocity-returns : (r : Result VelocityQuantities Refusal) (c : Result Velocity Refusal) → ReportsVelocity x r → Then CodesVelocity r c → c ≡ Ok x
  velocity-returns (Ok q) c p s = record-coded q p.quantities c s
  velocity-returns (Err why) c p s =
      let rows = velocity_rows x.kind in
      absurd (not-0 why (write-answer-one rows (velocity_value_of x) (length_of rows) (number_of why) 0 p.answer can))

  -- however often
  pub velocity-however-often : {n : ℕ} {c : Result Velocity Refusal} → VelocityTravels x n c → c ≡ Ok x
  velocity-however-often (stays e) = e
  velocity-however-often (goes {c = c} {d = d} t r p s) = velocity-returns r d (subst (λ (y : Result Velocity Refusal). Then ReportsVelocity y r) (velocity-however-often t) p) s

-- A message that is read: after any number of trips its record, written, gives its own octets with the spare bits zero.
module _ (s : List ℕ) (x : Velocity) (reads : ReadsVelocity s (Ok x)) where
  pub velocity-own-octets : {n : ℕ} {c : Result Velocity Refusal} → VelocityTravels x n c → (before after : List ℕ) (w : Result ℕ Refusal) → Then (λ (y : Velocity). WritesVelocity y before after) c w → length s ≤ length before
      → (w ≡ Ok (length s)) × (after ≡ spare_zero (velocity_rows_in s) s ++ drop (length s) before)
  velocity-own-octets {n} {c} t before after w writes room =
      let e = velocity-however-often x (velocity-accepted s (Ok x) reads x refl) t in
      let own = subst (λ (y : Result Velocity Refusal). Then (λ (z : Velocity). WritesVelocity z before after) y w) e writes in
      (velocity-taken s (Ok x) reads x refl before after w own room, velocity-again s (Ok x) reads x refl before after w own room)
