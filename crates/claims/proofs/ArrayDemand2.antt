-- DEMAND 2 holds over the library's arrays, for shapes and for velocities: what is put into an array says the record or the
-- quantities that were handed back, and of these it holds.
use Rattle.std.specs.Prelude.{Result, Ok, Err}
use Prim.Native.Nat.{ℕ, ◌≤◌}
use mathlib.Core.Path.{◌≡◌, refl, sym, ap, subst, ◌∙◌}
use mathlib.Core.List.{List, ◌++◌}
use native.Mathlib.Omega.{arith}
use lib.IntN.{ℤ, pos, negsuc}
use lib.ListN.{length, drop, length-append}
use Rattle.ground.specs.Answers.{handed, outcome_of, value_or, with_value}
use Rattle.ground.specs.declared.refusals.Refusal.{Refusal}
use Rattle.layout.specs.Layout.{MessageField, Row}
use Rattle.layout.specs.Rows.{length_of}
use Rattle.layout.specs.Demands.{WriteAnswer, Writes}
use Rattle.layout.specs.declared.shape.Kind.TheVariants as shape
use Rattle.layout.specs.declared.velocity.VelocityKind.TheVariants as velocity
use Rattle.layout.specs.Shapes.{ReadsShape, blank_shape}
use Rattle.layout.specs.Velocities.{ReadsVelocity, blank_velocity}
use Rattle.quantities.specs.Shapes.{no_shape}
use Rattle.quantities.specs.Velocities.{no_velocity}
use Rattle.quantity_arrays.specs.Shapes.{quantity_elements}
use Rattle.quantity_arrays.specs.Velocities.{velocity_quantity_elements}
use Rattle.layout.proofs.ShapeTrips.{shape-accepted, shape-whole}
use Rattle.layout.proofs.VelocityTrips.{velocity-accepted}
use Rattle.code_arrays.specs.Answers.{answer_of, given_room, PutsElements, OfArray, too_short, long_enough}
use Rattle.code_arrays.specs.Shapes.{shape_elements, record_in}
use Rattle.code_arrays.specs.Velocities.{velocity_elements, velocity_record_in}
use Rattle.code_arrays.proofs.PutLaws.{has_room}
use Rattle.array_reports.specs.Reports.{ReportsShapeIn}
use Rattle.array_records.specs.Records.{CodesShapeIn}
use Rattle.library.specs.Promises.{WritesSaid, ReportsVelocityIn, CodesVelocityIn}
use Rattle.claims.specs.Demand2.{Again}
use Rattle.claims.specs.ArrayDemand2.{Calls, ArrayAgain, ArraySame, ArrayDemand2, shape_calls, velocity_calls}
use Rattle.claims.proofs.Demand2.{taken-alone, demand-2-shapes, demand-2-velocities}
use Rattle.claims.proofs.ShapeReturns.{shape_returns}
use Rattle.claims.proofs.VelocityReturns.{velocity-returns}
use Rattle.claims.proofs.CodesSaid.{Says, as_said, shape-said, shape-of-codes, fifteen-of-codes, takes-shape, shape_same, velocity-said, velocity-of-codes, takes-velocity, velocity-same}
use Rattle.claims.proofs.QuantitiesSaid.{shape-coded, velocity-coded}

-- ---- what is handed back, and what is put

no-refusal : {m n : ℕ} → pos m ≡ negsuc n → ⊥
no-refusal e = let z : ◌≡◌ {A = ℕ} 0 1 = cc in absurd (omega arith)

-- a number that is no refusal's: done, with that number
answered : (w : Result ℕ Refusal) {m : ℕ} → pos m ≡ answer_of w → w ≡ Ok m
answered (Ok n) {m} e = let same : n ≡ m = cc in ap Ok same
answered (Err why) e = absurd (no-refusal e)

left-done : (left : Result Unit Refusal) (n : ℕ) {m : ℕ} → pos m ≡ answer_of (with_value left n) → left ≡ Ok tt
left-done (Ok _) n e = refl
left-done (Err why) n e = absurd (no-refusal e)

module _ {A : Type 0} {o : Result Unit Refusal} {elements before after : List A} where
  -- where there is room for what is done
  put_as : {n : ℤ} → PutsElements o elements before after n → given_room o (length elements) (length before) ≡ Ok tt → (n ≡ pos (length elements)) × (after ≡ elements ++ drop (length elements) before)
  put_as p e = (
    p.answer ∙ ap (λ (left : Result Unit Refusal). answer_of (with_value left (length elements))) e,
    p.array ∙ ap (λ (left : Result Unit Refusal). handed left (elements ++ drop (length elements) before) before) e,
  )

  -- by the outcome and the room
  put_all : {n : ℤ} → PutsElements o elements before after n → o ≡ Ok tt → length elements ≤ length before → (n ≡ pos (length elements)) × (after ≡ elements ++ drop (length elements) before)
  put_all p e h = put_as p (ap (λ (u : Result Unit Refusal). given_room u (length elements) (length before)) e ∙ sym (has_room (length elements) (length before) h))

-- a value of which the promise holds, and whose elements are put: the array is no shorter than they are
record Put {A B : Type 0} (elements : A → List B) (Promise : Result A Refusal → Type 0) (before after : List B) : Type 0 where
  value : A
  promise : Promise (Ok value)
  put : after ≡ elements value ++ drop (length (elements value)) before
  long : length (elements value) ≤ length after

-- where no refusal is handed back
put-done : {A B : Type 0} (elements : A → List B) (none : A) (Promise : Result A Refusal → Type 0) (r : Result A Refusal) → Promise r → {before after : List B} {m : ℕ} → PutsElements (outcome_of r) (elements (value_or none r)) before after (pos m) → Put elements Promise before after
put-done elements none Promise (Ok x) kept {before} p =
    let d = (put_as p (left-done (given_room (Ok tt) (length (elements x)) (length before)) (length (elements x)) p.answer)).1 in
    record { value = x; promise = kept; put = d; long = omega (arith, ap length d, length-append (elements x) (drop (length (elements x)) before)) }
put-done elements none Promise (Err why) kept p = absurd (no-refusal p.answer)

module _ {A B : Type 0} {elements : ℕ} {given : List A} {before after : List B} {said : Type 0} where
  -- where no refusal is handed back
  done-said : {m : ℕ} → OfArray elements given before after (pos m) said → said
  done-said (too_short h e k) = absurd (no-refusal e)
  done-said (long_enough h s) = s

  -- of an array that is long enough
  long-said : {n : ℤ} → elements ≤ length given → OfArray elements given before after n said → said
  long-said l (too_short h e k) = absurd (omega arith)
  long-said l (long_enough h s) = s

-- ---- ONE ARGUMENT for records of any sort

-- what is read into codes is written again: the codes say the record that was read
array_again : {codes before after s : List ℕ} {long : ℕ} {n : ℤ} {rows rows' octet_rows : List Row} {value value' : MessageField → ℕ}
    → long ≤ length codes → OfArray long codes before after n (WritesSaid rows value before after n) → Says rows rows' value value'
    → ((w : Result ℕ Refusal) → Writes rows' value' before after w → Again octet_rows s before after w) → ArrayAgain octet_rows s before after n
array_again {before = before} {after = after} l wrote says again =
    let h = long-said l wrote in
    let a = again h.written (as_said says (λ rows value. Writes rows value before after h.written) h.promise) in
    record { answer = h.said ∙ ap answer_of a.answer; message = a.message; rest = a.rest }

-- codes that are written are read back: the writer takes the record that they say
array_back : {codes before after : List ℕ} {m long : ℕ} {rows rows' : List Row} {value value' : MessageField → ℕ} {Back : Type 0}
    → OfArray m codes before after (pos long) (WritesSaid rows value before after (pos long))
    → (WriteAnswer rows value (length_of rows) 0 → Says rows rows' value value')
    → (WriteAnswer rows value (length_of rows) 0 → Writes rows' value' before after (Ok long) → Back) → Back
array_back {before = before} {after = after} {long = long} {rows = rows} {value = value} wrote says back =
    let h = done-said wrote in
    let own : Writes rows value before after (Ok long) = subst (λ (w : Result ℕ Refusal). Writes rows value before after w) (answered h.written h.said) h.promise in
    let takes = taken-alone rows value before after long own in
    back takes (as_said (says takes) (λ rows value. Writes rows value before after (Ok long)) own)

-- the record that codes say is put into an array, where its elements say what they do
array_same : (calls : Calls) {R : Type 0} (elements : R → List ℕ) (none : R) {codes array codes' : List ℕ} {x : R} {r : Result R Refusal} {n : ℤ} → length (elements x) ≡ calls.codes
    → ((rest : List ℕ) (f : MessageField) → calls.value (elements x ++ rest) f ≡ calls.value codes f) → r ≡ Ok x → PutsElements (outcome_of r) (elements (value_or none r)) array codes' n → calls.codes ≤ length array
    → ArraySame calls codes codes' n
array_same calls {R} elements none {codes} {array} {codes'} {x} {r} {n} long same e p room =
    let q : PutsElements (Ok tt) (elements x) array codes' n = subst (λ (z : Result R Refusal). PutsElements (outcome_of z) (elements (value_or none z)) array codes' n) e p in
    let d = put_all q refl (rw long room) in
    record { answer = d.0 ∙ ap pos long; value = λ f. ap (λ (l : List ℕ). calls.value l f) d.1 ∙ same _ f }

-- ---- the two sorts

pub array-demand-2-shapes : ArrayDemand2 shape_calls
array-demand-2-shapes = record {
  again = λ s array codes h before after n g room.
      let d = put-done shape_elements (blank_shape shape.Nothing) (ReadsShape s) h.read h.promise h.put in
      let x = d.value in
      array_again d.long g (shape-said x (shape-whole s (Ok x) d.promise x refl) (shape-accepted s (Ok x) d.promise x refl) (drop 61 array) d.put)
      (λ w writes. demand-2-shapes.again s x d.promise before after w writes room);
  back = λ codes before after long h array codes' n g room.
      array_back h (shape-of-codes codes)
      (λ takes writes. array_same shape_calls shape_elements (blank_shape shape.Nothing) refl (shape_same codes takes) (demand-2-shapes.back (record_in codes) (fifteen-of-codes codes) before after long writes g.read g.promise) g.put room);
  kept = λ codes before quantities h order array codes' n g room.
      let r = done-said h in
      let d = put-done quantity_elements no_shape (ReportsShapeIn codes) r.reported r.promise r.put in
      let q = d.value in
      let x = record_in codes in
      let c = long-said d.long g in
      let takes = takes-shape codes d.promise.answer in
      let coded = shape-coded x takes q d.promise.quantities (drop 44 before) c.coded (subst (λ (l : List ℤ). CodesShapeIn l c.coded) d.put c.promise) in
      let back = shape_returns x takes order (fifteen-of-codes codes) (Ok q) c.coded (record { answer = takes; quantities = d.promise.quantities }) coded in
      array_same shape_calls shape_elements (blank_shape shape.Nothing) refl (shape_same codes d.promise.answer) back c.put room;
}

pub array-demand-2-velocities : ArrayDemand2 velocity_calls
array-demand-2-velocities = record {
  again = λ s array codes h before after n g room.
      let d = put-done velocity_elements (blank_velocity velocity.Nothing) (ReadsVelocity s) h.read h.promise h.put in
      let x = d.value in
      array_again d.long g (velocity-said x (velocity-accepted s (Ok x) d.promise x refl) (drop 7 array) d.put)
      (λ w writes. demand-2-velocities.again s x d.promise before after w writes room);
  back = λ codes before after long h array codes' n g room.
      array_back h (velocity-of-codes codes)
      (λ takes writes. array_same velocity_calls velocity_elements (blank_velocity velocity.Nothing) refl (velocity-same codes takes) (demand-2-velocities.back (velocity_record_in codes) tt before after long writes g.read g.promise) g.put room);
  kept = λ codes before quantities h order array codes' n g room.
      let r = done-said h in
      let d = put-done velocity_quantity_elements no_velocity (ReportsVelocityIn codes) r.reported r.promise r.put in
      let q = d.value in
      let x = velocity_record_in codes in
      let c = long-said d.long g in
      let takes = takes-velocity codes d.promise.answer in
      let coded = velocity-coded x takes q d.promise.quantities (drop 6 before) c.coded (subst (λ (l : List ℤ). CodesVelocityIn l c.coded) d.put c.promise) in
      let back = velocity-returns x takes (Ok q) c.coded (record { answer = takes; quantities = d.promise.quantities }) coded in
      array_same velocity_calls velocity_elements (blank_velocity velocity.Nothing) refl (velocity-same codes d.promise.answer) back c.put room;
}
