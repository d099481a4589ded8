-- CODING the quantities that elements say: 2, 4, then 7 also for a quantity that does not arrive in its width, 8.
use Rattle.std.specs.Prelude.{◌≡◌, Bool, true, false, List, ◌++◌, ℕ, ◌≤◌, ◌<◌, ℤ, pos, length, get_or, drop, Result, IfOk}
use Rattle.std.proofs.lemmas.List.Edits.{sets}
use Rattle.ground.specs.Answers.{outcome_number, handed, done, Unless, outcome_of, value_or}
use Rattle.ground.specs.declared.code.LatitudeCode.{LatitudeCode}
use Rattle.ground.specs.declared.code.LongitudeCode.{LongitudeCode}
use Rattle.ground.specs.declared.refusals.Refusal.{Refusal}
use Rattle.layout.specs.declared.shape.Shape.{Shape}
use Rattle.fields.specs.Fields.{Coding}
use Rattle.fields.specs.Fields as field
use Rattle.layout.specs.declared.shape.Kind.TheVariants as shape
use Rattle.layout.specs.Layout.{Row}
use Rattle.layout.specs.Demands.{TypeKnown, CountSound}
use Rattle.layout.specs.Shapes.{blank_shape, zero_latitude, zero_longitude}
use Rattle.quantities.specs.Places.{PlaceQuantities}
use Rattle.quantities.specs.Promises.{CodeAnswer}
use Rattle.quantities.specs.Shapes.{quantity_at, quantity_rows, RecordOf, zero_degrees}
use Rattle.outline_codes.specs.Points.{PointKept, PointsKept}
use Rattle.code_arrays.specs.Answers.{given_room}
use Rattle.code_arrays.specs.QuantityNumbers.{quantity_in}
use Rattle.code_arrays.specs.Shapes.{point_elements, shape_elements, Ended}
use Rattle.quantity_arrays.specs.Shapes.{quantities_in, ShapeArrives}

abbrev pub CodeElementsAnswer : Type 0 → List Row → ℕ → PlaceQuantities → ℕ → Type 0
CodeElementsAnswer arrives rows count quantity =
    Unless (TypeKnown rows) 2 (Unless (CountSound rows (λ f. count)) 4 (Unless arrives 7 (CodeAnswer rows count quantity)))

pub record CodesShapeIn (elements : List ℤ) (r : Result Shape Refusal) : Type 0 where
  pub answer : CodeElementsAnswer (ShapeArrives elements) (quantity_rows (quantities_in elements)) (quantities_in elements).count (quantity_at (quantities_in elements)) (outcome_number r)
  pub shape : IfOk r (RecordOf (quantities_in elements))

-- what a coder that keeps its promise hands back is put into the array; `left` is its outcome, the room looked at
pub record CodesInto (elements : List ℤ) (before after : List ℕ) (left : Result Unit Refusal) : Type 0 where
  pub coded : Result Shape Refusal
  pub promise : CodesShapeIn elements coded
  pub roomed : left ≡ given_room (outcome_of coded) 61 (length before)
  pub array : after ≡ handed left (shape_elements (value_or (blank_shape shape.Nothing) coded) ++ drop 61 before) before

-- ---- the points

-- the first n are in range
abbrev pub UsedKept : List ℤ → ℕ → Type 0
UsedKept elements n = (i : ℕ) → i < n → PointKept true (get_or (quantities_in elements).latitudes i zero_degrees) (get_or (quantities_in elements).longitudes i zero_degrees)

-- no number from that element on
abbrev pub NoQuantitiesFrom : List ℤ → ℕ → Type 0
NoQuantitiesFrom elements first = (at : ℕ) → first ≤ at → at < 44 → quantity_in elements at ≡ pos 0

-- the codes of the first n, and zeros after them
pub record UsedCodes (elements : List ℤ) (n : ℕ) : Type 0 where
  pub latitudes : List LatitudeCode
  pub longitudes : List LongitudeCode
  pub all_latitudes : length latitudes ≡ 15
  pub all_longitudes : length longitudes ≡ 15
  pub coded_latitudes : (i : ℕ) → i < n → Coding field.latitude (get_or (quantities_in elements).latitudes i zero_degrees) (done (get_or latitudes i zero_latitude))
  pub coded_longitudes : (i : ℕ) → i < n → Coding field.longitude (get_or (quantities_in elements).longitudes i zero_degrees) (done (get_or longitudes i zero_longitude))
  pub ended : Ended latitudes longitudes n

-- all are kept, so that there are codes
pub record CodedPoints (elements : List ℤ) (n : ℕ) : Type 0 where
  pub kept : PointsKept (quantities_in elements).latitudes (quantities_in elements).longitudes n
  pub codes : UsedCodes elements n

abbrev pub UsedInRange : List ℤ → ℕ → Bool → Type 0
UsedInRange elements n true = UsedCodes elements n
UsedInRange elements n false = UsedKept elements n → ⊥

abbrev pub PointsInRange : List ℤ → ℕ → Bool → Type 0
PointsInRange elements n true = CodedPoints elements n
PointsInRange elements n false = PointsKept (quantities_in elements).latitudes (quantities_in elements).longitudes n → ⊥

-- the codes of the first n, put in their places
pub record PutsPointCodes (elements : List ℤ) (n : ℕ) (before after : List ℕ) : Type 0 where
  pub codes : UsedCodes elements n
  pub put : after ≡ sets before 16 (point_elements codes.latitudes codes.longitudes n)
