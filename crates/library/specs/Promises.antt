-- WHAT THE LIBRARY PROMISES: of what its arrays say, what the inner functions promise.
use Rattle.std.specs.Prelude.{◌≡◌, List, ℕ, ℤ, negsuc, Result, IfOk}
use Rattle.ground.specs.Answers.{outcome_number, Unless, Else0, outcome_of, value_or}
use Rattle.ground.specs.declared.said.SaidCode.{SaidCode}
use Rattle.ground.specs.declared.said.SaidQuantity.{SaidQuantity}
use Rattle.ground.specs.declared.refusals.Refusal.{Refusal}
use Rattle.quantities.specs.declared.velocity.VelocityQuantities.{VelocityQuantities}
use Rattle.quantities.specs.declared.shape.ShapeQuantities.{ShapeQuantities}
use Rattle.layout.specs.declared.velocity.Velocity.{Velocity}
use Rattle.layout.specs.declared.shape.Shape.{Shape}
use Rattle.layout.specs.declared.shape.Kind.TheVariants as shape
use Rattle.layout.specs.declared.velocity.VelocityKind.{VelocityKind}
use Rattle.layout.specs.declared.velocity.VelocityKind.TheVariants as velocity
use Rattle.layout.specs.Layout.{MessageField, Row, velocity_rows}
use Rattle.layout.specs.Rows.{length_of}
use Rattle.layout.specs.Demands.{TypeKnown, WriteAnswer, Writes}
use Rattle.layout.specs.Shapes.{ReadsShape, blank_shape}
use Rattle.layout.specs.Velocities.{ReadsVelocity, blank_velocity}
use Rattle.quantities.specs.Shapes.{no_shape}
use Rattle.quantities.specs.Velocities.{velocity_quantity_at, VelocityQuantitiesOf, VelocityRecordOf, no_velocity}
use Rattle.requests.specs.declared.Request.{Request}
use Rattle.requests.specs.Choice.{Chooses}
use Rattle.requests.specs.Choice as receiver
use Rattle.code_arrays.specs.Answers.{answer_of, PutsElements, OfArray}
use Rattle.code_arrays.specs.Shapes.{shape_elements, array_rows, value_in}
use Rattle.array_reports.specs.Reports.{ReportsShapeIn}
use Rattle.array_records.specs.Records.{CodeElementsAnswer, CodesShapeIn}
use Rattle.code_arrays.specs.Velocities.{velocity_elements, array_velocity_rows, velocity_value_in, velocity_record_in}
use Rattle.quantity_arrays.specs.Shapes.{quantity_elements}
use Rattle.quantity_arrays.specs.Velocities.{velocity_quantity_elements, velocity_quantities_in, VelocityArrives}
use Rattle.library.specs.Requests.{ElementsSay}
use Rattle.field_arrays.specs.Fields.{CodesField, ReportsField, said_code_elements, said_quantity_elements}

-- ---- READING: what a reader that keeps its promise hands back is put into the array

pub record ReadsShapeInto (s before after : List ℕ) (n : ℤ) : Type 0 where
  pub read : Result Shape Refusal
  pub promise : ReadsShape s read
  pub put : PutsElements (outcome_of read) (shape_elements (value_or (blank_shape shape.Nothing) read)) before after n

pub record ReadsVelocityInto (s before after : List ℕ) (n : ℤ) : Type 0 where
  pub read : Result Velocity Refusal
  pub promise : ReadsVelocity s read
  pub put : PutsElements (outcome_of read) (velocity_elements (value_or (blank_velocity velocity.Nothing) read)) before after n

-- ---- WRITING the record that elements say, and saying what a writer that keeps its promise answers

pub record WritesSaid (rows : List Row) (value : MessageField → ℕ) (before after : List ℕ) (n : ℤ) : Type 0 where
  pub written : Result ℕ Refusal
  pub promise : Writes rows value before after written
  pub said : n ≡ answer_of written

abbrev pub WritesShapeFrom : List ℕ → List ℕ → List ℕ → ℤ → Type 0
WritesShapeFrom elements before after n = OfArray 61 elements before after n (WritesSaid (array_rows elements) (value_in elements) before after n)

abbrev pub WritesVelocityFrom : List ℕ → List ℕ → List ℕ → ℤ → Type 0
WritesVelocityFrom elements before after n = OfArray 7 elements before after n (WritesSaid (array_velocity_rows elements) (velocity_value_in elements) before after n)

-- ---- REPORTING the record that elements say: one that the writer would refuse, room given, is refused with the same number

pub record ReportsShapeInto (elements : List ℕ) (before after : List ℤ) (n : ℤ) : Type 0 where
  pub reported : Result ShapeQuantities Refusal
  pub promise : ReportsShapeIn elements reported
  pub put : PutsElements (outcome_of reported) (quantity_elements (value_or no_shape reported)) before after n

abbrev pub ReportsShapeFrom : List ℕ → List ℤ → List ℤ → ℤ → Type 0
ReportsShapeFrom elements before after n = OfArray 61 elements before after n (ReportsShapeInto elements before after n)

pub record ReportsVelocityIn (elements : List ℕ) (r : Result VelocityQuantities Refusal) : Type 0 where
  pub answer : WriteAnswer (array_velocity_rows elements) (velocity_value_in elements) (length_of (array_velocity_rows elements)) (outcome_number r)
  pub quantities : IfOk r (VelocityQuantitiesOf (velocity_record_in elements))

pub record ReportsVelocityInto (elements : List ℕ) (before after : List ℤ) (n : ℤ) : Type 0 where
  pub reported : Result VelocityQuantities Refusal
  pub promise : ReportsVelocityIn elements reported
  pub put : PutsElements (outcome_of reported) (velocity_quantity_elements (value_or no_velocity reported)) before after n

abbrev pub ReportsVelocityFrom : List ℕ → List ℤ → List ℤ → ℤ → Type 0
ReportsVelocityFrom elements before after n = OfArray 7 elements before after n (ReportsVelocityInto elements before after n)

-- ---- CODING the quantities that elements say: 2, 4, then 7 also for a quantity that does not arrive in its width, 8

pub record CodesShapeInto (elements : List ℤ) (before after : List ℕ) (n : ℤ) : Type 0 where
  pub coded : Result Shape Refusal
  pub promise : CodesShapeIn elements coded
  pub put : PutsElements (outcome_of coded) (shape_elements (value_or (blank_shape shape.Nothing) coded)) before after n

abbrev pub CodesShapeFrom : List ℤ → List ℕ → List ℕ → ℤ → Type 0
CodesShapeFrom elements before after n = OfArray 44 elements before after n (CodesShapeInto elements before after n)

pub record CodesVelocityIn (elements : List ℤ) (r : Result Velocity Refusal) : Type 0 where
  pub answer : CodeElementsAnswer (VelocityArrives elements) (velocity_rows (velocity_quantities_in elements).kind) 0 (velocity_quantity_at (velocity_quantities_in elements)) (outcome_number r)
  pub velocity : IfOk r (VelocityRecordOf (velocity_quantities_in elements))

pub record CodesVelocityInto (elements : List ℤ) (before after : List ℕ) (n : ℤ) : Type 0 where
  pub coded : Result Velocity Refusal
  pub promise : CodesVelocityIn elements coded
  pub put : PutsElements (outcome_of coded) (velocity_elements (value_or (blank_velocity velocity.Nothing) coded)) before after n

abbrev pub CodesVelocityFrom : List ℤ → List ℕ → List ℕ → ℤ → Type 0
CodesVelocityFrom elements before after n = OfArray 6 elements before after n (CodesVelocityInto elements before after n)

-- ---- THE CHOICE for the request that elements say; 7 where they say none

pub data ChoosesIn (elements : List ℤ) (list : ℕ) (before after : List ℕ) (n : ℤ) : Type 0 where
  no_request : ((q : Request) → ElementsSay elements q → ⊥) → n ≡ negsuc 6 → after ≡ before → ChoosesIn elements list before after n
  chosen : {q : Request} (w : Result ℕ Refusal) → ElementsSay elements q → Chooses q (receiver.Listed list) before after w
      → n ≡ answer_of w → ChoosesIn elements list before after n

abbrev pub ChoosesFrom : List ℤ → ℕ → List ℕ → List ℕ → ℤ → Type 0
ChoosesFrom elements list before after n = OfArray 8 elements before after n (ChoosesIn elements list before after n)

-- ---- ONE FIELD'S code and quantity

pub record CodesOne (field : ℕ) (quantity : ℤ) (before after : List ℕ) (n : ℤ) : Type 0 where
  pub said : Result SaidCode Refusal
  pub promise : CodesField field quantity said
  pub put : PutsElements (outcome_of said) (said_code_elements said) before after n

pub record ReportsOne (field : ℕ) (code : List ℕ) (before after : List ℤ) (n : ℤ) : Type 0 where
  pub said : Result SaidQuantity Refusal
  pub promise : ReportsField field code said
  pub put : PutsElements (outcome_of said) (said_quantity_elements said) before after n

-- ---- the parts

-- 2, of a velocity's kind
abbrev pub KindAnswer : VelocityKind → ℕ → Type 0
KindAnswer k = Unless (TypeKnown (velocity_rows k)) 2 Else0
