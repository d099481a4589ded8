-- What the calls share: a message is no longer than the room; a number outside its field or its width is 7, after what comes before it;
-- a record made of elements is reported as the record that they say.
use Rattle.std.specs.Prelude.{Result, Ok, Err, IfOk}
use Rattle.std.specs.Result.{result_and}
use mathlib.Core.Path.{◌≡◌, refl, ◌∙◌, subst}
use mathlib.Core.List.{List}
use Prim.Native.Nat.{ℕ, ◌≤◌}
use native.Mathlib.Omega.{arith}
use lib.IntN.{ℤ}
use lib.ListN.{length}
use Rattle.ground.specs.Answers.{outcome_number, outcome_of, with_value, Unless, unmet, met, Else0}
use Rattle.ground.proofs.AnswerLaws.{not-0}
use Rattle.ground.specs.declared.refusals.Refusal.{Refusal}
use Rattle.quantities.specs.declared.velocity.VelocityQuantities.{VelocityQuantities}
use Rattle.layout.specs.declared.shape.Kind.{Kind}
use Rattle.layout.specs.declared.velocity.Velocity.{Velocity}
use Rattle.layout.specs.declared.velocity.VelocityKind.{VelocityKind}
use Rattle.layout.specs.Layout.{MessageField, Row, velocity_rows}
use Rattle.layout.specs.Rows.{length_of}
use Rattle.layout.specs.Demands.{TypeKnown, CountSound, WriteAnswer, Writes}
use Rattle.quantities.specs.Places.{PlaceQuantities}
use Rattle.quantities.specs.Promises.{CodeAnswer}
use Rattle.quantities.specs.Velocities.{velocity_quantity_at, VelocityQuantitiesOf, ReportsVelocity, CodesVelocity}
use Rattle.requests.specs.declared.Request.{Request}
use Rattle.requests.specs.Choice.{Chosen, refuses, too_short, writes, Chooses}
use Rattle.code_arrays.specs.Answers.{answer_of, else_out_of_range}
use Rattle.code_arrays.specs.Velocities.{held_velocity, WholeVelocity}
use Rattle.quantity_arrays.specs.Velocities.{velocity_quantities_in, VelocityArrives}
use Rattle.velocities.proofs.DemandLaws.{no-count}
use Rattle.library.proofs.VelocityLaws.{held-velocity-answer, held-velocity-record}
use Rattle.code_arrays.proofs.PutLaws.{puts-by}
use Rattle.array_reading.specs.Reading.{ReadsInto, ReadsMotionInto}
use Rattle.array_reports.specs.Reports.{ReportsInto}
use Rattle.array_records.specs.Records.{CodeElementsAnswer, CodesInto}
use Rattle.library.specs.Promises.{ReadsShapeInto, ReadsVelocityInto, ReportsShapeInto, ReportsVelocityIn, CodesShapeInto, CodesVelocityIn, KindAnswer}

-- ---- no longer than the room

module _ (rows : List Row) (value : MessageField → ℕ) (room : ℕ) where
  roomy : WriteAnswer rows value room 0 → length_of rows ≤ room
  roomy (unmet p e) = absurd (omega arith)
  roomy (met p (unmet q e)) = absurd (omega arith)
  roomy (met p (met q (unmet r e))) = absurd (omega arith)
  roomy (met p (met q (met r (unmet s e)))) = absurd (omega arith)
  roomy (met p (met q (met r (met s (unmet t e))))) = absurd (omega arith)
  roomy (met p (met q (met r (met s (met t (unmet u e)))))) = absurd (omega arith)
  roomy (met p (met q (met r (met s (met t (met u e)))))) = u

pub written-within : {rows : List Row} {value : MessageField → ℕ} {before after : List ℕ} (w : Result ℕ Refusal) → Writes rows value before after w → IfOk w (λ n. n ≤ length before)
written-within {rows} {value} {before} (Ok n) p = rw p.written (roomy rows value (length before) p.answer)
written-within (Err why) p = tt

chosen-short : {q : Request} {taken : Kind → Type 0} {before after : List ℕ} {m n : ℕ} → Chosen q taken before m n after → n ≤ length before
chosen-short (refuses r) = omega arith
chosen-short (too_short i c b l) = omega arith
chosen-short (writes i c b l) = l

pub chosen-within : {q : Request} {taken : Kind → Type 0} {before after : List ℕ} (w : Result ℕ Refusal) → Chooses q taken before after w → IfOk w (λ n. n ≤ length before)
chosen-within (Ok n) p = chosen-short p
chosen-within (Err why) p = tt

-- ---- what is put, and the number that is handed back

said-with : (left : Result Unit Refusal) (put : ℕ) → answer_of (result_and left (Ok put)) ≡ answer_of (with_value left put)
said-with (Ok _) put = refl
said-with (Err why) put = refl

pub read-said : {s before after : List ℕ} {left : Result Unit Refusal} {n : ℤ} → ReadsInto s before after left → n ≡ answer_of (result_and left (Ok 61)) → ReadsShapeInto s before after n
read-said {left = left} r e = record { read = r.read; promise = r.promise; put = puts-by {outcome = outcome_of r.read} r.roomed (e ∙ said-with left 61) r.array }

pub motion-said : {s before after : List ℕ} {left : Result Unit Refusal} {n : ℤ} → ReadsMotionInto s before after left → n ≡ answer_of (result_and left (Ok 7)) → ReadsVelocityInto s before after n
motion-said {left = left} r e = record { read = r.read; promise = r.promise; put = puts-by {outcome = outcome_of r.read} r.roomed (e ∙ said-with left 7) r.array }

pub report-said : {elements : List ℕ} {before after : List ℤ} {left : Result Unit Refusal} {n : ℤ} → ReportsInto elements before after left → n ≡ answer_of (result_and left (Ok 44)) → ReportsShapeInto elements before after n
report-said {left = left} r e = record { reported = r.reported; promise = r.promise; put = puts-by {outcome = outcome_of r.reported} r.roomed (e ∙ said-with left 44) r.array }

pub code-said : {elements : List ℤ} {before after : List ℕ} {left : Result Unit Refusal} {n : ℤ} → CodesInto elements before after left → n ≡ answer_of (result_and left (Ok 61)) → CodesShapeInto elements before after n
code-said {left = left} r e = record { coded = r.coded; promise = r.promise; put = puts-by {outcome = outcome_of r.coded} r.roomed (e ∙ said-with left 61) r.array }

-- ---- 7, after what comes before it

module _ (arrives : Type 0) (rows : List Row) (count : ℕ) (quantity : PlaceQuantities) where
  form-else : (o : Result Unit Refusal) → Unless (TypeKnown rows) 2 (Unless (CountSound rows (λ f. count)) 4 Else0) (outcome_number o) → (arrives → ⊥)
      → CodeElementsAnswer arrives rows count quantity (outcome_number (else_out_of_range o))
  form-else (Ok _) (unmet p e) n = absurd (omega arith)
  form-else (Ok _) (met p (unmet q e)) n = absurd (omega arith)
  form-else (Ok _) (met p (met q e)) n = met p (met q (unmet n refl))
  form-else (Err why) (unmet p e) n = unmet p e
  form-else (Err why) (met p (unmet q e)) n = met p (unmet q e)
  form-else (Err why) (met p (met q e)) n = absurd (not-0 why e)

  arrived : (m : ℕ) → arrives → CodeAnswer rows count quantity m → CodeElementsAnswer arrives rows count quantity m
  arrived m a (unmet p e) = unmet p e
  arrived m a (met p (unmet q e)) = met p (unmet q e)
  arrived m a (met p (met q r)) = met p (met q (met a (met p (met q r))))

-- ---- reporting the record that elements say

pub held-velocity-reports : (elements : List ℕ) (r : Result VelocityQuantities Refusal) → WholeVelocity elements → ReportsVelocity (held_velocity elements) r → ReportsVelocityIn elements r
held-velocity-reports elements (Ok q) whole p =
    let a = held-velocity-answer elements whole _ p.answer in
    record { answer = a; quantities = subst (λ (x : Velocity). VelocityQuantitiesOf x q) (held-velocity-record elements whole _ a) p.quantities }
held-velocity-reports elements (Err why) whole p = record { answer = held-velocity-answer elements whole _ p.answer; quantities = tt }

-- ---- refusing what is outside its field or its width

kind-form : (k : VelocityKind) (m : ℕ) → KindAnswer k m → Unless (TypeKnown (velocity_rows k)) 2 (Unless (CountSound (velocity_rows k) (λ f. 0)) 4 Else0) m
kind-form k m (unmet p e) = unmet p e
kind-form k m (met p e) = met p (met (no-count (λ f. 0) k) e)

pub misfit-velocity-codes : (elements : List ℤ) (o : Result Unit Refusal) (why : Refusal) → else_out_of_range o ≡ Err why → KindAnswer (velocity_quantities_in elements).kind (outcome_number o) → (VelocityArrives elements → ⊥) → CodesVelocityIn elements (Err why)
misfit-velocity-codes elements o why e a n = record {
  answer = rw e at (form-else (VelocityArrives elements) (velocity_rows (velocity_quantities_in elements).kind) 0 (velocity_quantity_at (velocity_quantities_in elements)) o (kind-form (velocity_quantities_in elements).kind _ a) n);
  velocity = tt;
}

-- ---- coding what arrives

pub arrived-velocity-codes : (elements : List ℤ) (r : Result Velocity Refusal) → VelocityArrives elements → CodesVelocity (velocity_quantities_in elements) r → CodesVelocityIn elements r
arrived-velocity-codes elements r a p = record { answer = arrived (VelocityArrives elements) (velocity_rows (velocity_quantities_in elements).kind) 0 (velocity_quantity_at (velocity_quantities_in elements)) _ a p.answer; velocity = p.velocity }
