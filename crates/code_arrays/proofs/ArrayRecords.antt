-- The record that elements say has the elements' own numbers, where its type is listed and each number is within its field. Assumes
-- nothing.
use Prim.Native.Nat.{ℕ, suc, ◌+◌, ◌*◌, ◌≤◌}
use mathlib.Core.Path.{◌≡◌, sym, ap}
use mathlib.Core.List.{List}
use native.Mathlib.Omega.{arith}
use Rattle.octets.specs.Codes.{complement}
use Rattle.layout.specs.Layout.{MessageField, type_number, count, south, latitude, longitude}
use Rattle.layout.specs.Demands.{TypeKnown, InFields}
use Rattle.layout.specs.Shapes.{value_of}
use Rattle.layout.proofs.ShapeRecords.{values_of}
use Rattle.layout.proofs.ShapeTrips.{type-back}
use Rattle.code_arrays.specs.CodeNumbers.{from_bits}
use Rattle.code_arrays.specs.Shapes.{array_kind, array_rows, value_in, record_in}
use Rattle.code_arrays.proofs.ArrayLaws.{no-element, number}

module _ (elements : List ℕ) where
  -- no element is of a point after the fifteenth
  no-point : (i : ℕ) → 15 ≤ i → (value_in elements (south (suc i)) ≡ 0) × (value_in elements (latitude (suc i)) ≡ 0) × (value_in elements (longitude (suc i)) ≡ 0)
  no-point i h = (
    sym (no-element elements (16 + 3 * i) (omega arith)),
    sym (no-element elements (17 + 3 * i) (omega arith)),
    sym (ap (λ (n : ℕ). complement (from_bits n)) (no-element elements (18 + 3 * i) (omega arith))),
  )

  module _ (listed : TypeKnown (array_rows elements)) (fields : InFields (array_rows elements) (value_in elements)) where
    pub record-values : (f : MessageField) → value_of (record_in elements) f ≡ value_in elements f
    record-values =
        values_of (array_kind elements) (value_in elements) (type-back (value_in elements type_number) (value_in elements count) listed) (number elements fields) no-point
