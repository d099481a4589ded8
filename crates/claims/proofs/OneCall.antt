-- ONE ANSWER: each call's promise leaves one number and one content of the array or buffer that it fills: what is handed back is
-- one thing, by the laws of the inner functions, and one thing is put in one way.
use Rattle.std.specs.Prelude.{Result, IfOk}
use Prim.Native.Nat.{ℕ}
use mathlib.Core.Path.{◌≡◌, sym, ap, subst, ◌∙◌}
use mathlib.Core.List.{List}
use lib.IntN.{ℤ}
use Rattle.ground.specs.Answers.{outcome_number, outcome_of, value_or}
use Rattle.ground.proofs.AnswerLaws.{unless-one, value-told}
use Rattle.ground.specs.declared.refusals.Refusal.{Refusal}
use Rattle.layout.specs.declared.velocity.Velocity.{Velocity}
use Rattle.layout.specs.declared.shape.Shape.{Shape}
use Rattle.layout.specs.declared.shape.Kind.TheVariants as shape
use Rattle.layout.specs.declared.velocity.VelocityKind.TheVariants as velocity
use Rattle.layout.specs.Layout.{MessageField, Row, velocity_rows}
use Rattle.layout.specs.Rows.{length_of}
use Rattle.layout.specs.Demands.{WriteAnswer}
use Rattle.layout.specs.Shapes.{blank_shape}
use Rattle.layout.specs.Velocities.{blank_velocity}
use Rattle.layout.proofs.OneMessage.{write-answer-one, writes_one, buffer-one}
use Rattle.layout.proofs.OneMessage as trips
use Rattle.quantities.specs.Places.{PlaceQuantities}
use Rattle.quantities.specs.Shapes.{quantity_at, quantity_rows, QuantitiesOf, RecordOf, no_shape}
use Rattle.quantities.specs.Velocities.{velocity_quantity_at, VelocityQuantitiesOf, VelocityRecordOf, no_velocity}
use Rattle.claims.proofs.PlaceLaws.{code-answer-one}
use Rattle.claims.proofs.ShapeReturns as shapes
use Rattle.claims.proofs.VelocityReturns as velocities
use Rattle.requests.specs.declared.Request.{Request}
use Rattle.requests.specs.Choice.{Chooses}
use Rattle.requests.specs.Choice as receiver
use Rattle.requests.proofs.OneChoice as demands
use Rattle.code_arrays.specs.Answers.{answer_of, PutsElements}
use Rattle.code_arrays.proofs.PutLaws.{puts-answer-one, puts-array-one, of-array-one}
use Rattle.code_arrays.specs.Shapes.{shape_elements, array_rows, value_in, record_in}
use Rattle.code_arrays.specs.Velocities.{velocity_elements, array_velocity_rows, velocity_value_in, velocity_record_in}
use Rattle.quantity_arrays.specs.Shapes.{quantity_elements, quantities_in, ShapeArrives}
use Rattle.quantity_arrays.specs.Velocities.{velocity_quantity_elements, velocity_quantities_in, VelocityArrives}
use Rattle.field_arrays.specs.Fields.{said_code_elements, said_quantity_elements}
use Rattle.array_records.specs.Records.{CodeElementsAnswer}
use Rattle.library.specs.Promises.{ReadsShapeInto, ReadsVelocityInto, WritesSaid, WritesShapeFrom, WritesVelocityFrom, ReportsShapeFrom, ReportsVelocityFrom, CodesShapeFrom, CodesVelocityFrom, ChoosesIn, no_request, chosen, ChoosesFrom, CodesOne, ReportsOne}
use Rattle.claims.proofs.OneRequest.{request-one}
use Rattle.claims.proofs.OneField.{codes-field-one, reports-field-one}

-- ---- what is handed back is put in one way

puts_one : {B : Type 0} {o u : Result Unit Refusal} {x y before after after' : List B} {n n' : ℤ} → o ≡ u → x ≡ y
    → PutsElements o x before after n → PutsElements u y before after' n' → (n ≡ n') × (after ≡ after')
puts_one e f p q = (puts-answer-one e f p q, puts-array-one e f p q)

-- an answer whose number and whose value are one
module _ {A B : Type 0} (Right : A → Type 0) (none : A) (elements : A → List B) (one : (x y : A) → Right x → Right y → x ≡ y) (promise : ℕ → Type 0) (number-one : (a b : ℕ) → promise a → promise b → a ≡ b) where
  given-one : (r q : Result A Refusal) {before after after' : List B} {n n' : ℤ} → promise (outcome_number r) → promise (outcome_number q) → IfOk r Right → IfOk q Right
      → PutsElements (outcome_of r) (elements (value_or none r)) before after n → PutsElements (outcome_of q) (elements (value_or none q)) before after' n' → (n ≡ n') × (after ≡ after')
  given-one r q p o v w =
      let e = value-told promise number-one Right one r q p o v w in
      puts_one (ap outcome_of e) (ap (λ (x : Result A Refusal). elements (value_or none x)) e)

-- ---- reading

pub reads-shape-one : (s before after after' : List ℕ) (n n' : ℤ) → ReadsShapeInto s before after n → ReadsShapeInto s before after' n' → (n ≡ n') × (after ≡ after')
reads-shape-one s before after after' n n' a b =
    let e = trips.reads-shape-one s a.read b.read a.promise b.promise in
    puts_one (ap outcome_of e) (ap (λ (r : Result Shape Refusal). shape_elements (value_or (blank_shape shape.Nothing) r)) e) a.put b.put

pub reads-velocity-one : (s before after after' : List ℕ) (n n' : ℤ) → ReadsVelocityInto s before after n → ReadsVelocityInto s before after' n' → (n ≡ n') × (after ≡ after')
reads-velocity-one s before after after' n n' a b =
    let e = trips.reads-velocity-one s a.read b.read a.promise b.promise in
    puts_one (ap outcome_of e) (ap (λ (r : Result Velocity Refusal). velocity_elements (value_or (blank_velocity velocity.Nothing) r)) e) a.put b.put

-- ---- writing

answer-said-one : {w v : Result ℕ Refusal} {n n' : ℤ} → w ≡ v → n ≡ answer_of w → n' ≡ answer_of v → n ≡ n'
answer-said-one e p q = p ∙ ap answer_of e ∙ sym q

module _ (rows : List Row) (value : MessageField → ℕ) (before after after' : List ℕ) (n n' : ℤ) where
  writes-said-one : WritesSaid rows value before after n → WritesSaid rows value before after' n' → (n ≡ n') × (after ≡ after')
  writes-said-one a b = (
    answer-said-one (writes_one rows value before after after' a.written b.written a.promise b.promise) a.said b.said,
    buffer-one rows value before after after' a.written b.written a.promise b.promise,
  )

pub writes-shape-one : (elements before after after' : List ℕ) (n n' : ℤ) → WritesShapeFrom elements before after n → WritesShapeFrom elements before after' n' → (n ≡ n') × (after ≡ after')
writes-shape-one elements before after after' n n' a b = of-array-one a b (writes-said-one (array_rows elements) (value_in elements) before after after' n n')

pub writes-velocity-one : (elements before after after' : List ℕ) (n n' : ℤ) → WritesVelocityFrom elements before after n → WritesVelocityFrom elements before after' n' → (n ≡ n') × (after ≡ after')
writes-velocity-one elements before after after' n n' a b = of-array-one a b (writes-said-one (array_velocity_rows elements) (velocity_value_in elements) before after after' n n')

-- ---- reporting

pub reports-shape-one : (elements : List ℕ) (before after after' : List ℤ) (n n' : ℤ) → ReportsShapeFrom elements before after n → ReportsShapeFrom elements before after' n' → (n ≡ n') × (after ≡ after')
reports-shape-one elements before after after' n n' a b =
    of-array-one a b
    (λ p q.
    given-one (QuantitiesOf (record_in elements)) no_shape quantity_elements (shapes.reported-one (record_in elements))
    (WriteAnswer (array_rows elements) (value_in elements) (length_of (array_rows elements))) (write-answer-one (array_rows elements) (value_in elements) (length_of (array_rows elements))) _ _ p.promise.answer q.promise.answer p.promise.quantities q.promise.quantities p.put q.put)

pub reports-velocity-one : (elements : List ℕ) (before after after' : List ℤ) (n n' : ℤ) → ReportsVelocityFrom elements before after n → ReportsVelocityFrom elements before after' n' → (n ≡ n') × (after ≡ after')
reports-velocity-one elements before after after' n n' a b =
    of-array-one a b
    (λ p q.
    given-one (VelocityQuantitiesOf (velocity_record_in elements)) no_velocity velocity_quantity_elements (velocities.reported-one (velocity_record_in elements))
    (WriteAnswer (array_velocity_rows elements) (velocity_value_in elements) (length_of (array_velocity_rows elements))) (write-answer-one (array_velocity_rows elements) (velocity_value_in elements) (length_of (array_velocity_rows elements))) _ _ p.promise.answer q.promise.answer p.promise.quantities q.promise.quantities p.put q.put)

-- ---- coding

code-elements-one : (arrives : Type 0) (rows : List Row) (count : ℕ) (quantity : PlaceQuantities) (a b : ℕ) → CodeElementsAnswer arrives rows count quantity a → CodeElementsAnswer arrives rows count quantity b → a ≡ b
code-elements-one arrives rows count quantity = unless-one _ 2 _ (unless-one _ 4 _ (unless-one _ 7 _ (code-answer-one rows count quantity)))

pub codes-shape-one : (elements : List ℤ) (before after after' : List ℕ) (n n' : ℤ) → CodesShapeFrom elements before after n → CodesShapeFrom elements before after' n' → (n ≡ n') × (after ≡ after')
codes-shape-one elements before after after' n n' a b =
    let x = quantities_in elements in
    of-array-one a b
    (λ p q.
    given-one (RecordOf x) (blank_shape shape.Nothing) shape_elements (shapes.coded-one x)
    (CodeElementsAnswer (ShapeArrives elements) (quantity_rows x) x.count (quantity_at x)) (code-elements-one (ShapeArrives elements) (quantity_rows x) x.count (quantity_at x)) _ _ p.promise.answer q.promise.answer p.promise.shape q.promise.shape p.put q.put)

pub codes-velocity-one : (elements : List ℤ) (before after after' : List ℕ) (n n' : ℤ) → CodesVelocityFrom elements before after n → CodesVelocityFrom elements before after' n' → (n ≡ n') × (after ≡ after')
codes-velocity-one elements before after after' n n' a b =
    let x = velocity_quantities_in elements in
    of-array-one a b
    (λ p q.
    given-one (VelocityRecordOf x) (blank_velocity velocity.Nothing) velocity_elements (velocities.coded-one x)
    (CodeElementsAnswer (VelocityArrives elements) (velocity_rows x.kind) 0 (velocity_quantity_at x)) (code-elements-one (VelocityArrives elements) (velocity_rows x.kind) 0 (velocity_quantity_at x)) _ _ p.promise.answer q.promise.answer p.promise.velocity q.promise.velocity p.put q.put)

-- ---- the choice

chosen-one : (elements : List ℤ) (list : ℕ) (before after after' : List ℕ) (n n' : ℤ) → ChoosesIn elements list before after n → ChoosesIn elements list before after' n' → (n ≡ n') × (after ≡ after')
chosen-one elements list before after after' n n' (no_request h a b) (no_request h' a' b') = (a ∙ sym a', b ∙ sym b')
chosen-one elements list before after after' n n' (no_request h a b) (chosen {q = q} w s c t) = absurd (h q s)
chosen-one elements list before after after' n n' (chosen {q = q} w s c t) (no_request h a b) = absurd (h q s)
chosen-one elements list before after after' n n' (chosen {q = q} w s c t) (chosen {q = q'} w' s' c' t') =
    let d = subst (λ (r : Request). Chooses r (receiver.Listed list) before after' w') (request-one elements q' q s' s) c' in
    (answer-said-one (demands.chooses-one q (receiver.Listed list) before after after' w w' c d) t t', demands.chosen-buffer-one q (receiver.Listed list) before after after' w w' c d)

pub chooses-one : (elements : List ℤ) (list : ℕ) (before after after' : List ℕ) (n n' : ℤ) → ChoosesFrom elements list before after n → ChoosesFrom elements list before after' n' → (n ≡ n') × (after ≡ after')
chooses-one elements list before after after' n n' a b = of-array-one a b (chosen-one elements list before after after' n n')

-- ---- one field's code and quantity

pub codes-one : (field : ℕ) (quantity : ℤ) (before after after' : List ℕ) (n n' : ℤ) → CodesOne field quantity before after n → CodesOne field quantity before after' n' → (n ≡ n') × (after ≡ after')
codes-one field quantity before after after' n n' a b =
    let e = codes-field-one a.promise b.promise in
    puts_one (ap outcome_of e) (ap said_code_elements e) a.put b.put

pub reports-one : (field : ℕ) (code : List ℕ) (before after after' : List ℤ) (n n' : ℤ) → ReportsOne field code before after n → ReportsOne field code before after' n' → (n ≡ n') × (after ≡ after')
reports-one field code before after after' n n' a b =
    let e = reports-field-one a.promise b.promise in
    puts_one (ap outcome_of e) (ap said_quantity_elements e) a.put b.put
