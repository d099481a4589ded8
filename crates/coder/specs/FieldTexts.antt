-- What is printed for the texts behind a field's name.
use Rattle.std.specs.Prelude.{◌≡◌, List, [], ◌∷◌, ℕ, ℤ, length, min, pos, Result, Option, Some, None}
use Rattle.ground.specs.declared.refusals.Refusal.{Refusal}
use Rattle.ground.specs.declared.said.SaidCode.{SaidCode}
use Rattle.ground.specs.declared.said.SaidQuantity.{SaidQuantity}
use Rattle.fields.specs.Fields.{Field, CodeOf, QuantityOf}
use Rattle.fields.specs.Fields as field
use Rattle.one_field.specs.declared.coding.Coordinate.{Coordinate}
use Rattle.one_field.specs.declared.coding.Coordinate.TheVariants as coordinate
use Rattle.one_field.specs.declared.coding.Unsigned.{Unsigned}
use Rattle.one_field.specs.declared.coding.Unsigned.TheVariants as unsigned
use Rattle.one_field.specs.Coding as coding
use Rattle.one_field.specs.declared.reporting.Byte.{Byte}
use Rattle.one_field.specs.declared.reporting.Byte.TheVariants as byte
use Rattle.one_field.specs.declared.reporting.Word.{Word}
use Rattle.one_field.specs.declared.reporting.Word.TheVariants as word
use Rattle.one_field.specs.declared.reporting.Signed.{Signed}
use Rattle.one_field.specs.declared.reporting.Signed.TheVariants as signed
use Rattle.one_field.specs.Reporting as reporting
use Rattle.text.specs.Numerals.{numeral_of}
use Rattle.text.specs.Widths.{Means, IsBelow}
use Rattle.text.specs.LineFields.{IsAbsent, fields_of}
use Rattle.text.specs.AnswerLines.{line_of_code, line_of_quantity}
use Rattle.text.specs.declared.said.SaidLine.{SaidLine}
use Rattle.text.specs.declared.said.SaidLine.TheVariants.{Unreadable, Refused}
use Rattle.one_field.specs.Coding.{count_of}
use Rattle.coder.specs.declared.names.Name.{Name}
use Rattle.coder.specs.Names.{field_of}
use Rattle.coder.specs.Written.{TextSays, WriteNumbers, numbers_of}

-- ---- coding

-- one text that writes a quantity, or unreadable
pub data CodesText (f : Field) (texts : List (List ℕ)) (r : SaidLine) : Type 0 where
  coded : {text : List ℕ} {x : QuantityOf f} {said : Result SaidCode Refusal} → texts ≡ text ∷ [] → TextSays f text x → coding.TellsCode f x said → r ≡ line_of_code said → CodesText f texts r
  no_quantity : ((text : List ℕ) (x : QuantityOf f) → texts ≡ text ∷ [] → TextSays f text x → ⊥) → r ≡ Unreadable → CodesText f texts r

-- of what a word names: its field's answer, or unreadable where it names none
abbrev pub CodesAt : Option Name → List (List ℕ) → SaidLine → Type 0
CodesAt (Some name) ts r = CodesText (field_of name) ts r
CodesAt None ts r = r ≡ Unreadable

-- ---- reporting

-- numbers that are a code, numbers that are none, or unreadable
pub data ReportsText (f : Field) (texts : List (List ℕ)) (r : SaidLine) : Type 0 where
  reported : {c : CodeOf f} {said : Result SaidQuantity Refusal} → WriteNumbers texts (numbers_of f c) → reporting.TellsQuantity f c said → r ≡ line_of_quantity said → ReportsText f texts r
  no_code : {zs : List ℤ} → WriteNumbers texts zs → length zs ≡ count_of f → ((c : CodeOf f) → numbers_of f c ≡ zs → ⊥) → r ≡ Refused 7 → ReportsText f texts r
  no_numbers : ((zs : List ℤ) → WriteNumbers texts zs → length zs ≡ count_of f → ⊥) → r ≡ Unreadable → ReportsText f texts r

-- the same of a report
abbrev pub ReportsAt : Option Name → List (List ℕ) → SaidLine → Type 0
ReportsAt (Some name) ts r = ReportsText (field_of name) ts r
ReportsAt None ts r = r ≡ Unreadable

-- a text that is no code of one number, or what a reporter says of the number, and of the largest of 32 bits for one that is larger
pub data ReportsNumber (says : ℕ → Result SaidQuantity Refusal → Type 0) (text : List ℕ) (r : SaidLine) : Type 0 where
  of_number : {n : ℕ} {said : Result SaidQuantity Refusal} → Means (numeral_of text) (pos n) → says (min n 4294967295) said → r ≡ line_of_quantity said → ReportsNumber says text r
  below : IsBelow (numeral_of text) → r ≡ Refused 7 → ReportsNumber says text r
  nothing : numeral_of text ≡ None → r ≡ Unreadable → ReportsNumber says text r

-- ---- the fields of a sort together

abbrev pub coordinate_field : Coordinate → Field
coordinate_field coordinate.Latitude = field.latitude
coordinate_field coordinate.Longitude = field.longitude

abbrev pub byte_field : Byte → Field
byte_field byte.Uncertainty = field.uncertainty
byte_field byte.AltitudeUncertainty = field.altitude_uncertainty
byte_field byte.Offset = field.offset
byte_field byte.Included = field.included
byte_field byte.Orientation = field.orientation
byte_field byte.UncertaintySpeed = field.uncertainty_speed
byte_field byte.Confidence = field.confidence

abbrev pub word_field : Word → Field
word_field word.InnerRadius = field.inner_radius
word_field word.Bearing = field.bearing
word_field word.HorizontalSpeed = field.horizontal_speed

abbrev pub signed_field : Signed → Field
signed_field signed.Latitude = field.latitude
signed_field signed.Altitude = field.altitude
signed_field signed.VerticalSpeed = field.vertical_speed

-- for a quantity that may be missing: one that is given
abbrev pub CodesUnsigned : Unsigned → List ℕ → SaidLine → Type 0
CodesUnsigned unsigned.Uncertainty text r = CodesText field.uncertainty (fields_of text) r
CodesUnsigned unsigned.AltitudeUncertainty text r = CodesText field.altitude_uncertainty (fields_of text) r
CodesUnsigned unsigned.InnerRadius text r = CodesText field.inner_radius (fields_of text) r
CodesUnsigned unsigned.Offset text r = CodesText field.offset (fields_of text) r
CodesUnsigned unsigned.Included text r = CodesText field.included (fields_of text) r
CodesUnsigned unsigned.Orientation text r = CodesText field.orientation (fields_of text) r
CodesUnsigned unsigned.Bearing text r = CodesText field.bearing (fields_of text) r
CodesUnsigned unsigned.HorizontalSpeed text r = CodesText field.horizontal_speed (fields_of text) r
CodesUnsigned unsigned.UncertaintySpeed text r = (IsAbsent text → ⊥) → CodesText field.uncertainty_speed (fields_of text) r
CodesUnsigned unsigned.Confidence text r = (IsAbsent text → ⊥) → CodesText field.confidence (fields_of text) r
