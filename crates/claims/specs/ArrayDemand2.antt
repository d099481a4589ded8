-- DEMAND 2 over the library's arrays: read then written, written then read, reported then coded. That its calls meet it is a law
-- (proofs/ArrayDemand2.antt).
use Rattle.std.specs.Prelude.{◌≡◌, List, ℕ, ◌≤◌, ℤ, pos, length, take, drop}
use Rattle.layout.specs.Layout.{MessageField, Row, semi_major, semi_minor}
use Rattle.layout.specs.Messages.{in_row, IsMessage}
use Rattle.layout.specs.Shapes.{rows_in}
use Rattle.layout.specs.Velocities.{velocity_rows_in}
use Rattle.code_arrays.specs.Shapes.{value_in}
use Rattle.code_arrays.specs.Velocities.{velocity_value_in}
use Rattle.library.specs.Promises.{ReadsShapeInto, ReadsVelocityInto, WritesShapeFrom, WritesVelocityFrom, ReportsShapeFrom, ReportsVelocityFrom, CodesShapeFrom, CodesVelocityFrom}

-- The calls for records of one sort: each takes an array or octets, what it fills before and after, and what it hands back.
pub record Calls : Type 1 where
  pub rows : List ℕ → List Row
  -- how many codes and how many quantities a record has
  pub codes : ℕ
  pub quantities : ℕ
  pub Reads : List ℕ → List ℕ → List ℕ → ℤ → Type 0
  pub Writes : List ℕ → List ℕ → List ℕ → ℤ → Type 0
  pub Reports : List ℕ → List ℤ → List ℤ → ℤ → Type 0
  pub Codes : List ℤ → List ℕ → List ℕ → ℤ → Type 0
  -- the number that an array of codes says of every field
  pub value : List ℕ → MessageField → ℕ

-- the octets s, read and written again
pub record ArrayAgain (rows : List Row) (s before after : List ℕ) (n : ℤ) : Type 0 where
  pub answer : n ≡ pos (length s)
  pub message : IsMessage rows (in_row s) (take (length s) after)
  pub rest : drop (length s) after ≡ drop (length s) before

-- as many codes are put as there are, and each field has the number that it had
pub record ArraySame (calls : Calls) (codes after : List ℕ) (n : ℤ) : Type 0 where
  pub answer : n ≡ pos calls.codes
  pub value : (f : MessageField) → calls.value after f ≡ calls.value codes f

-- the semi-minor code is not above the semi-major
abbrev pub ArrayInOrder : Calls → List ℕ → Type 0
ArrayInOrder calls codes = calls.value codes semi_minor ≤ calls.value codes semi_major

pub record ArrayDemand2 (calls : Calls) : Type 0 where
  -- AGAIN: octets that are read into an array, written from it where there is room for them
  pub again : (s array codes : List ℕ) → calls.Reads s array codes (pos calls.codes) → (before after : List ℕ) (n : ℤ) → calls.Writes codes before after n → length s ≤ length before → ArrayAgain (calls.rows s) s before after n
  -- BACK: codes that are written, read from the octets of their message
  pub back : (codes before after : List ℕ) (long : ℕ) → calls.Writes codes before after (pos long) → (array codes' : List ℕ) (n : ℤ) → calls.Reads (take long after) array codes' n → calls.codes ≤ length array → ArraySame calls codes codes' n
  -- KEPT: codes that are in order and are reported, coded from their quantities
  pub kept : (codes : List ℕ) (before quantities : List ℤ) → calls.Reports codes before quantities (pos calls.quantities) → ArrayInOrder calls codes → (array codes' : List ℕ) (n : ℤ) → calls.Codes quantities array codes' n → calls.codes ≤ length array → ArraySame calls codes codes' n

abbrev pub shape_calls : Calls
shape_calls = record {
  rows = rows_in;
  codes = 61;
  quantities = 44;
  Reads = ReadsShapeInto;
  Writes = WritesShapeFrom;
  Reports = ReportsShapeFrom;
  Codes = CodesShapeFrom;
  value = value_in;
}

abbrev pub velocity_calls : Calls
velocity_calls = record {
  rows = velocity_rows_in;
  codes = 7;
  quantities = 6;
  Reads = ReadsVelocityInto;
  Writes = WritesVelocityFrom;
  Reports = ReportsVelocityFrom;
  Codes = CodesVelocityFrom;
  value = velocity_value_in;
}
