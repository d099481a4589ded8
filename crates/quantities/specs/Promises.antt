-- What it means that a record's codes are reported, and that quantities are coded, by the fields of document 01 and the rows of
-- the record's type.
use Rattle.std.specs.Prelude.{◌≡◌, List, ℕ, ◌≤◌}
use Rattle.ground.specs.Answers.{done, Unless, Else0}
use Rattle.fields.specs.Fields.{Coding, OutOfRange, TooUncertain, Reporting}
use Rattle.layout.specs.Layout.{Row}
use Rattle.layout.specs.Layout as layout
use Rattle.layout.specs.Demands.{TypeKnown, Used, CountSound}
use Rattle.quantities.specs.Places.{Place, semi_major, semi_minor, field_of, row_of, PlaceCodes, PlaceQuantities, Unused, zero_code, zero_quantity}

-- REPORTING: each quantity is what its field reports of the code; what the type doesn't use is zero
pub record EachReported (rows : List Row) (code : PlaceCodes) (quantity : PlaceQuantities) : Type 0 where
  pub used : (p : Place) → Used rows (row_of p) → Reporting (field_of p) (code p) (done (quantity p))
  pub unused : (p : Place) → Unused rows (row_of p) → quantity p ≡ zero_quantity (field_of p)

-- CODING: each code is what its field codes of the quantity; what the type doesn't use is zero
pub record EachCoded (rows : List Row) (quantity : PlaceQuantities) (code : PlaceCodes) : Type 0 where
  pub used : (p : Place) → Used rows (row_of p) → Coding (field_of p) (quantity p) (done (code p))
  pub unused : (p : Place) → Unused rows (row_of p) → code p ≡ zero_code (field_of p)

-- 7: a quantity outside its field's range; one that the type doesn't use and that isn't zero; semi-minor above semi-major
pub record QuantitiesInRange (rows : List Row) (count : ℕ) (quantity : PlaceQuantities) : Type 0 where
  pub used : (p : Place) → Used rows (row_of p) → OutOfRange (field_of p) (quantity p) → ⊥
  pub unused : (p : Place) → Unused rows (row_of p) → quantity p ≡ zero_quantity (field_of p)
  pub uncounted : Unused rows layout.count → count ≡ 0
  pub axes : (quantity semi_minor).0 ≤ (quantity semi_major).0

-- 8: an uncertainty above what its field's largest code covers
pub record QuantitiesCovered (rows : List Row) (quantity : PlaceQuantities) : Type 0 where
  pub used : (p : Place) → Used rows (row_of p) → TooUncertain (field_of p) (quantity p) → ⊥

-- CODING a record by its own type, by the number of its answer: 2, 4, 7, 8
abbrev pub CodeAnswer : List Row → ℕ → PlaceQuantities → ℕ → Type 0
CodeAnswer rows count quantity =
    Unless (TypeKnown rows) 2 (Unless (CountSound rows (λ f. count)) 4 (Unless (QuantitiesInRange rows count quantity) 7 (Unless (QuantitiesCovered rows quantity) 8 Else0)))
