-- ONE FIELD'S CODE AND QUANTITY IN ELEMENTS.
use Rattle.std.specs.Prelude.{◌≡◌, Bool, List, [], ◌∷◌, ℕ, ◌≤◌, ◌<◌, ℤ, pos, length, Result, Ok, Err, Option, Some, None}
use Rattle.ground.specs.declared.refusals.Refusal.TheVariants.{UnknownType, WrongLength, OutOfRange}
use Rattle.ground.specs.declared.said.SaidCode.{SaidCode}
use Rattle.ground.specs.declared.said.SaidCode.TheVariants as code
use Rattle.ground.specs.declared.said.SaidQuantity.{SaidQuantity}
use Rattle.ground.specs.declared.said.SaidQuantity.TheVariants as quantity
use Rattle.ground.specs.declared.refusals.Refusal.{Refusal}
use Rattle.ground.specs.declared.quantity.PerCent.{PerCent}
use Rattle.ground.specs.declared.quantity.MetresPerHour.{MetresPerHour}
use Rattle.octets.specs.Codes.{bit_of, sign_of}
use Rattle.fields.specs.Fields.{Field, CodeOf, QuantityOf}
use Rattle.fields.specs.Fields as field
use Rattle.fields.specs.Places.{place_of}
use Rattle.one_field.specs.declared.coding.Unsigned.{Unsigned}
use Rattle.one_field.specs.declared.coding.Unsigned.TheVariants as unsigned
use Rattle.one_field.specs.Coding as coding
use Rattle.one_field.specs.Coding.{count_of}
use Rattle.one_field.specs.declared.reporting.Byte.{Byte}
use Rattle.one_field.specs.declared.reporting.Byte.TheVariants as byte
use Rattle.one_field.specs.declared.reporting.Word.{Word}
use Rattle.one_field.specs.declared.reporting.Word.TheVariants as word
use Rattle.one_field.specs.declared.reporting.Signed.{Signed}
use Rattle.one_field.specs.declared.reporting.Signed.TheVariants as signed
use Rattle.one_field.specs.Reporting as reporting
use Rattle.code_arrays.specs.CodeNumbers.{element_at, from_bits, bits_of}
use Rattle.code_arrays.specs.QuantityNumbers.{missing, Natural32, Signed32}

-- ---- CODING

-- the element's number is the one, and 32 bits hold it, without a sign or with one
pub record IsNatural (z : ℤ) (n : ℕ) : Type 0 where
  pub number : z ≡ pos n
  pub fits : Natural32 z

pub record IsSigned (z x : ℤ) : Type 0 where
  pub number : z ≡ x
  pub fits : Signed32 z

abbrev pub IsUncertaintySpeed : ℤ → Option MetresPerHour → Type 0
IsUncertaintySpeed z (Some s) = IsNatural z s.0
IsUncertaintySpeed z None = z ≡ missing

abbrev pub IsConfidence : ℤ → Option PerCent → Type 0
IsConfidence z (Some p) = IsNatural z p.0
IsConfidence z None = z ≡ missing

-- Quantities arrive signed in 64 bits for coordinates, signed in 32 for altitude and vertical speed, unsigned in 32 otherwise.
abbrev pub QuantityArrives : (f : Field) → ℤ → QuantityOf f → Type 0
QuantityArrives field.latitude z x = z ≡ x.0
QuantityArrives field.longitude z x = z ≡ x.0
QuantityArrives field.uncertainty z x = IsNatural z x.0
QuantityArrives field.altitude_uncertainty z x = IsNatural z x.0
QuantityArrives field.altitude z x = IsSigned z x.0
QuantityArrives field.inner_radius z x = IsNatural z x.0
QuantityArrives field.offset z x = IsNatural z x.0
QuantityArrives field.included z x = IsNatural z x.0
QuantityArrives field.orientation z x = IsNatural z x.0
QuantityArrives field.bearing z x = IsNatural z x.0
QuantityArrives field.horizontal_speed z x = IsNatural z x.0
QuantityArrives field.vertical_speed z x = IsSigned z x.0
QuantityArrives field.uncertainty_speed z x = IsUncertaintySpeed z x
QuantityArrives field.confidence z x = IsConfidence z x

-- the field's coder tells of the quantity in the element; 7 where none arrives
pub data CodesElement (f : Field) (z : ℤ) (r : Result SaidCode Refusal) : Type 0 where
  outside : ((x : QuantityOf f) → QuantityArrives f z x → ⊥) → r ≡ Err OutOfRange → CodesElement f z r
  coded : {x : QuantityOf f} → QuantityArrives f z x → coding.TellsCode f x r → CodesElement f z r

-- of the field whose place is that number; 2 where there is none
pub data CodesField (number : ℕ) (z : ℤ) (r : Result SaidCode Refusal) : Type 0 where
  no_field : 14 ≤ number → r ≡ Err UnknownType → CodesField number z r
  of_field : {f : Field} → place_of f ≡ number → CodesElement f z r → CodesField number z r

-- ---- REPORTING

-- a code's elements: S or D and N, or N alone
pub record IsSignedCode (elements : List ℕ) (s : Bool) (n : ℕ) : Type 0 where
  pub both : 2 ≤ length elements
  pub bit : element_at elements 0 ≤ 1
  pub sign : s ≡ sign_of (element_at elements 0)
  pub number : n ≡ element_at elements 1

pub record IsCode (elements : List ℕ) (n : ℕ) : Type 0 where
  pub one : 1 ≤ length elements
  pub number : n ≡ element_at elements 0

pub record IsLongitude (elements : List ℕ) (x : ℤ) : Type 0 where
  pub one : 1 ≤ length elements
  pub number : x ≡ from_bits (element_at elements 0)

abbrev pub SaysCode : (f : Field) → List ℕ → CodeOf f → Type 0
SaysCode field.latitude elements c = IsSignedCode elements c.0 c.1
SaysCode field.longitude elements c = IsLongitude elements c.0
SaysCode field.uncertainty elements c = IsCode elements c.0
SaysCode field.altitude_uncertainty elements c = IsCode elements c.0
SaysCode field.altitude elements c = IsSignedCode elements c.0 c.1
SaysCode field.inner_radius elements c = IsCode elements c.0
SaysCode field.offset elements c = IsCode elements c.0
SaysCode field.included elements c = IsCode elements c.0
SaysCode field.orientation elements c = IsCode elements c.0
SaysCode field.bearing elements c = IsCode elements c.0
SaysCode field.horizontal_speed elements c = IsCode elements c.0
SaysCode field.vertical_speed elements c = IsSignedCode elements c.0 c.1
SaysCode field.uncertainty_speed elements c = IsCode elements c.0
SaysCode field.confidence elements c = IsCode elements c.0

-- 3 where elements are missing, 7 where they say no code of the field's type, else what the field's reporter tells
pub data ReportsElements (f : Field) (elements : List ℕ) (r : Result SaidQuantity Refusal) : Type 0 where
  too_short : length elements < count_of f → r ≡ Err WrongLength → ReportsElements f elements r
  no_code : count_of f ≤ length elements → ((c : CodeOf f) → SaysCode f elements c → ⊥) → r ≡ Err OutOfRange → ReportsElements f elements r
  reported : {c : CodeOf f} → SaysCode f elements c → reporting.TellsQuantity f c r → ReportsElements f elements r

pub data ReportsField (number : ℕ) (elements : List ℕ) (r : Result SaidQuantity Refusal) : Type 0 where
  no_field : 14 ≤ number → r ≡ Err UnknownType → ReportsField number elements r
  of_field : {f : Field} → place_of f ≡ number → ReportsElements f elements r → ReportsField number elements r

-- ---- WHAT IS PUT

-- a code's elements
abbrev pub code_elements : SaidCode → List ℕ
code_elements (code.Natural n) = n ∷ []
code_elements (code.Signed c) = bit_of c.0 ∷ c.1 ∷ []
code_elements (code.Longitude c) = bits_of c.0 ∷ []

abbrev pub said_code_elements : Result SaidCode Refusal → List ℕ
said_code_elements (Ok said) = code_elements said
said_code_elements (Err why) = []

-- a quantity's element
abbrev pub quantity_elements : SaidQuantity → List ℤ
quantity_elements (quantity.Natural n) = pos n ∷ []
quantity_elements (quantity.Coordinate x) = x.0 ∷ []
quantity_elements (quantity.Altitude a) = a.0 ∷ []
quantity_elements (quantity.VerticalSpeed v) = v.0 ∷ []
quantity_elements quantity.Missing = missing ∷ []

abbrev pub said_quantity_elements : Result SaidQuantity Refusal → List ℤ
said_quantity_elements (Ok said) = quantity_elements said
said_quantity_elements (Err why) = []

-- ---- the fields of a sort together

abbrev pub CodesNatural : Unsigned → ℤ → Result SaidCode Refusal → Type 0
CodesNatural unsigned.Uncertainty z r = CodesElement field.uncertainty z r
CodesNatural unsigned.AltitudeUncertainty z r = CodesElement field.altitude_uncertainty z r
CodesNatural unsigned.InnerRadius z r = CodesElement field.inner_radius z r
CodesNatural unsigned.Offset z r = CodesElement field.offset z r
CodesNatural unsigned.Included z r = CodesElement field.included z r
CodesNatural unsigned.Orientation z r = CodesElement field.orientation z r
CodesNatural unsigned.Bearing z r = CodesElement field.bearing z r
CodesNatural unsigned.HorizontalSpeed z r = CodesElement field.horizontal_speed z r
-- one that is given
CodesNatural unsigned.UncertaintySpeed z r = (z ≡ missing → ⊥) → CodesElement field.uncertainty_speed z r
CodesNatural unsigned.Confidence z r = (z ≡ missing → ⊥) → CodesElement field.confidence z r

abbrev pub ReportsByte : Byte → List ℕ → Result SaidQuantity Refusal → Type 0
ReportsByte byte.Uncertainty elements r = ReportsElements field.uncertainty elements r
ReportsByte byte.AltitudeUncertainty elements r = ReportsElements field.altitude_uncertainty elements r
ReportsByte byte.Offset elements r = ReportsElements field.offset elements r
ReportsByte byte.Included elements r = ReportsElements field.included elements r
ReportsByte byte.Orientation elements r = ReportsElements field.orientation elements r
ReportsByte byte.UncertaintySpeed elements r = ReportsElements field.uncertainty_speed elements r
ReportsByte byte.Confidence elements r = ReportsElements field.confidence elements r

abbrev pub ReportsWord : Word → List ℕ → Result SaidQuantity Refusal → Type 0
ReportsWord word.InnerRadius elements r = ReportsElements field.inner_radius elements r
ReportsWord word.Bearing elements r = ReportsElements field.bearing elements r
ReportsWord word.HorizontalSpeed elements r = ReportsElements field.horizontal_speed elements r

abbrev pub ReportsSigned : Signed → List ℕ → Result SaidQuantity Refusal → Type 0
ReportsSigned signed.Latitude elements r = ReportsElements field.latitude elements r
ReportsSigned signed.Altitude elements r = ReportsElements field.altitude elements r
ReportsSigned signed.VerticalSpeed elements r = ReportsElements field.vertical_speed elements r
