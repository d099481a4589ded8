-- Document 01, "Refusal numbers": what is demanded of a message and of a record, in its order.
use Rattle.std.specs.Prelude.{◌≡◌, List, ◌++◌, ℕ, ◌^◌, ◌<◌, ◌≤◌, length, drop, Result, IfOk}
use Rattle.ground.specs.Answers.{outcome_number, handed, Unless, Else0}
use Rattle.ground.specs.Counts.{angle_codes, bearing_codes, confidence_codes}
use Rattle.ground.specs.declared.refusals.Refusal.{Refusal}
use Rattle.layout.specs.Layout.{MessageField, Row}
use Rattle.layout.specs.Layout as layout
use Rattle.layout.specs.Rows.{width_of, read, length_of, message}

-- a type that is not listed has no rows
abbrev pub TypeKnown : List Row → Type 0
TypeKnown rows = 0 < length_of rows

-- The demands on codes cover only the fields that the type uses.
abbrev pub Used : List Row → MessageField → Type 0
Used rows f = 0 < width_of rows f

-- 4: polygon count outside 3..15
pub record CountSound (rows : List Row) (value : MessageField → ℕ) : Type 0 where
  pub least : Used rows layout.count → 3 ≤ value layout.count
  pub most : Used rows layout.count → value layout.count ≤ 15

-- 5: orientation, offset or included code 180 or more; bearing code 360 or more
pub record AnglesSound (rows : List Row) (value : MessageField → ℕ) : Type 0 where
  pub orientations : Used rows layout.orientation → value layout.orientation < angle_codes
  pub offsets : Used rows layout.offset → value layout.offset < angle_codes
  pub includeds : Used rows layout.included → value layout.included < angle_codes
  pub bearings : Used rows layout.bearing → value layout.bearing < bearing_codes

-- 6: confidence code 101 or more
pub record ConfidenceSound (rows : List Row) (value : MessageField → ℕ) : Type 0 where
  pub confidences : Used rows layout.confidence → value layout.confidence < confidence_codes

-- 7: a record's code outside its field; a field that the type doesn't use has no bits, and is zero
pub record InFields (rows : List Row) (value : MessageField → ℕ) : Type 0 where
  pub each : (f : MessageField) → value f < 2 ^ width_of rows f

-- READING so many octets, whose fields have these numbers, by the number of its answer: 1, 2, 4, 3, 5, 6
abbrev pub NumbersAnswer : List Row → ℕ → (MessageField → ℕ) → ℕ → Type 0
NumbersAnswer rows octets number =
    Unless (0 < octets) 1
    (Unless (TypeKnown rows) 2
    (Unless (CountSound rows number) 4
    (Unless (octets ≡ length_of rows) 3
    (Unless (AnglesSound rows number) 5
    (Unless (ConfidenceSound rows number) 6 Else0)))))

abbrev pub ReadAnswer : List Row → List ℕ → ℕ → Type 0
ReadAnswer rows s = NumbersAnswer rows (length s) (read s rows)

-- THE CODES of a record of these numbers: 2, 4, 5, 6, and then what the others give
abbrev pub CodesThen : List Row → (MessageField → ℕ) → (ℕ → Type 0) → ℕ → Type 0
CodesThen rows value others =
    Unless (TypeKnown rows) 2
    (Unless (CountSound rows value) 4
    (Unless (AnglesSound rows value) 5
    (Unless (ConfidenceSound rows value) 6 others)))

-- A RECORD of these numbers: 2, 4, 5, 6, 7, and then what the others give
abbrev pub RecordThen : List Row → (MessageField → ℕ) → (ℕ → Type 0) → ℕ → Type 0
RecordThen rows value others = CodesThen rows value (Unless (InFields rows value) 7 others)

-- WRITING it into a buffer of `room` octets: 2, 4, 5, 6, 7, 10
abbrev pub WriteAnswer : List Row → (MessageField → ℕ) → ℕ → ℕ → Type 0
WriteAnswer rows value room = RecordThen rows value (Unless (length_of rows ≤ room) 10 Else0)

-- a record that is written, room given
pub record Sound (rows : List Row) (value : MessageField → ℕ) : Type 0 where
  pub listed : TypeKnown rows
  pub counted : CountSound rows value
  pub angles : AnglesSound rows value
  pub sure : ConfidenceSound rows value
  pub fields : InFields rows value

-- the demands 5 and 6 on a shape's codes; what its type doesn't use is 0
abbrev pub CodesAnswer : ℕ → ℕ → ℕ → ℕ → ℕ → Type 0
CodesAnswer orientation' offset' included' confidence' =
    Unless ((orientation' < angle_codes) × (offset' < angle_codes) × (included' < angle_codes)) 5 (Unless (confidence' < confidence_codes) 6 Else0)

-- What writing leaves: on 0 the message in the first octets and the others as they were; on a refusal the buffer as it was.
-- The answer is how many octets are written.
pub record Writes (rows : List Row) (value : MessageField → ℕ) (before after : List ℕ) (r : Result ℕ Refusal) : Type 0 where
  pub answer : WriteAnswer rows value (length before) (outcome_number r)
  pub written : IfOk r (λ n. n ≡ length_of rows)
  pub buffer : after ≡ handed r (message rows value ++ drop (length_of rows) before) before
