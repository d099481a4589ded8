-- The widths of a shape's fields, from the layout table, and the numbers in elements that they hold.
use Rattle.std.specs.Prelude.{◌≡◌, List, [], ◌∷◌, map, ℕ, suc, ◌+◌, ◌-◌, ◌*◌, ◌^◌, ◌≤◌, ◌<◌, get_or}
use Rattle.layout.specs.declared.shape.Kind.{Kind}
use Rattle.layout.specs.Layout.{MessageField, shape_rows}
use Rattle.layout.specs.Layout as layout
use Rattle.layout.specs.Rows.{width_of}
use Rattle.layout.specs.Demands.{InFields}
use Rattle.code_arrays.specs.CodeNumbers.{element_at}
use Rattle.code_arrays.specs.Shapes.{value_in, array_rows}

abbrev pub ElementsInFields : List ℕ → Type 0
ElementsInFields elements = InFields (array_rows elements) (value_in elements)

-- the fields that are no polygon point's, in the order of the elements
abbrev pub single_fields : List MessageField
single_fields =
    layout.type_number ∷ layout.count ∷ layout.south 0 ∷ layout.latitude 0 ∷ layout.longitude 0 ∷ layout.depth ∷ layout.altitude ∷ layout.uncertainty ∷ layout.semi_major ∷ layout.semi_minor ∷ layout.orientation ∷ layout.altitude_uncertainty ∷ layout.inner_radius ∷ layout.offset ∷ layout.included ∷ layout.confidence ∷ []

abbrev pub numbers_in : List ℕ → List ℕ
numbers_in elements = map (value_in elements) single_fields

-- the largest number that so many bits hold
abbrev pub largest_of : Kind → List ℕ
largest_of k = map (λ f. 2 ^ width_of (shape_rows k 0) f - 1) single_fields

-- type, count, S, latitude and longitude of a kind that has a position, and eleven others
abbrev pub positioned_largest : List ℕ → List ℕ
positioned_largest l =
    15 ∷ 0 ∷ 1 ∷ 8388607 ∷ 16777215 ∷ get_or l 0 0 ∷ get_or l 1 0 ∷ get_or l 2 0 ∷ get_or l 3 0 ∷ get_or l 4 0 ∷ get_or l 5 0 ∷ get_or l 6 0 ∷ get_or l 7 0 ∷ get_or l 8 0 ∷ get_or l 9 0 ∷ get_or l 10 0 ∷ []

-- each number against the largest
abbrev pub Within : List ℕ → List ℕ → Type 0
Within numbers largest = (i : ℕ) → i < 16 → get_or numbers i 0 ≤ get_or largest i 0

-- the numbers of a point against 1, 23 and 24 bits
pub record PointWithin (elements : List ℕ) (i : ℕ) : Type 0 where
  pub sign : value_in elements (layout.south (suc i)) < 2
  pub size : value_in elements (layout.latitude (suc i)) < 8388608
  pub turn : value_in elements (layout.longitude (suc i)) < 16777216

abbrev pub UsedWithin : List ℕ → ℕ → Type 0
UsedWithin elements n = (i : ℕ) → i < n → PointWithin elements i

-- no number from that element on
abbrev pub NoCodesFrom : List ℕ → ℕ → Type 0
NoCodesFrom elements first = (at : ℕ) → first ≤ at → at < 61 → element_at elements at ≡ 0

-- of the fifteen points the first n are used; the others are zero
pub record PointsWithin (elements : List ℕ) (n : ℕ) : Type 0 where
  pub used : UsedWithin elements n
  pub none : NoCodesFrom elements (16 + 3 * n)
