-- REPORTING the record that elements say: one that the writer would refuse, room given, is refused with the same number.
use Rattle.std.specs.Prelude.{◌≡◌, List, ◌++◌, ℕ, ℤ, length, drop, Result, IfOk}
use Rattle.std.proofs.lemmas.List.Edits.{sets}
use Rattle.ground.specs.Answers.{outcome_number, handed, outcome_of, value_or}
use Rattle.ground.specs.declared.quantity.Nanodegrees.{Nanodegrees}
use Rattle.ground.specs.declared.refusals.Refusal.{Refusal}
use Rattle.quantities.specs.declared.shape.ShapeQuantities.{ShapeQuantities}
use Rattle.layout.specs.Rows.{length_of}
use Rattle.layout.specs.Demands.{WriteAnswer}
use Rattle.quantities.specs.Shapes.{QuantitiesOf, no_shape}
use Rattle.field_reports.specs.Points.{LatitudesReported, LongitudesReported}
use Rattle.code_arrays.specs.Answers.{given_room}
use Rattle.code_arrays.specs.Shapes.{array_rows, value_in, record_in}
use Rattle.quantity_arrays.specs.Shapes.{point_quantity_elements, quantity_elements}

pub record ReportsShapeIn (elements : List ℕ) (r : Result ShapeQuantities Refusal) : Type 0 where
  pub answer : WriteAnswer (array_rows elements) (value_in elements) (length_of (array_rows elements)) (outcome_number r)
  pub quantities : IfOk r (QuantitiesOf (record_in elements))

-- what a reporter that keeps its promise hands back is put into the array; `left` is its outcome, the room looked at
pub record ReportsInto (elements : List ℕ) (before after : List ℤ) (left : Result Unit Refusal) : Type 0 where
  pub reported : Result ShapeQuantities Refusal
  pub promise : ReportsShapeIn elements reported
  pub roomed : left ≡ given_room (outcome_of reported) 44 (length before)
  pub array : after ≡ handed left (quantity_elements (value_or no_shape reported) ++ drop 44 before) before

-- the coordinates of the first n points, put in their places
pub record PutsPointQuantities (elements : List ℕ) (n : ℕ) (before after : List ℤ) : Type 0 where
  pub latitudes : List Nanodegrees
  pub longitudes : List Nanodegrees
  pub told_latitudes : LatitudesReported (record_in elements).latitudes n latitudes
  pub told_longitudes : LongitudesReported (record_in elements).longitudes n longitudes
  pub put : after ≡ sets before 14 (point_quantity_elements latitudes longitudes n)
