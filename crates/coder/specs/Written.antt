-- What the texts behind a name write: a quantity, or the numbers of a code.
use Rattle.std.specs.Prelude.{Bool, cond, List, [], ◌∷◌, ℕ, ℤ, pos, Option, Some, None}
use Rattle.fields.specs.Fields.{Field, CodeOf, QuantityOf}
use Rattle.fields.specs.Fields as field
use Rattle.text.specs.Numerals.{numeral_of}
use Rattle.text.specs.Widths.{Means}
use Rattle.text.specs.LineFields.{IsAbsent, SaysSigned, SaysUnsigned, SaysConfidence}
use Rattle.ground.specs.declared.quantity.MetresPerHour.{MetresPerHour}

-- ---- a quantity

-- `-` is a missing quantity
abbrev pub WritesUncertaintySpeed : List ℕ → Option MetresPerHour → Type 0
WritesUncertaintySpeed text (Some s) = SaysUnsigned text s.0
WritesUncertaintySpeed text None = IsAbsent text

-- the text writes the quantity, which fits the width in which it arrives: coordinates signed in 64 bits, altitude and vertical
-- speed signed in 32, the others unsigned in 32
abbrev pub TextSays : (f : Field) → List ℕ → QuantityOf f → Type 0
TextSays field.latitude text x = SaysSigned 64 text x.0
TextSays field.longitude text x = SaysSigned 64 text x.0
TextSays field.uncertainty text x = SaysUnsigned text x.0
TextSays field.altitude_uncertainty text x = SaysUnsigned text x.0
TextSays field.altitude text x = SaysSigned 32 text x.0
TextSays field.inner_radius text x = SaysUnsigned text x.0
TextSays field.offset text x = SaysUnsigned text x.0
TextSays field.included text x = SaysUnsigned text x.0
TextSays field.orientation text x = SaysUnsigned text x.0
TextSays field.bearing text x = SaysUnsigned text x.0
TextSays field.horizontal_speed text x = SaysUnsigned text x.0
TextSays field.vertical_speed text x = SaysSigned 32 text x.0
TextSays field.uncertainty_speed text x = WritesUncertaintySpeed text x
TextSays field.confidence text x = SaysConfidence text x

-- ---- the numbers of a code

-- each text writes the number in its place; one that 64 bits can't hold counts as their largest, which no field holds either
pub data WriteNumbers : List (List ℕ) → List ℤ → Type 0 where
  none : WriteNumbers [] []
  more : {text : List ℕ} {texts : List (List ℕ)} {z : ℤ} {zs : List ℤ} → Means (numeral_of text) z → WriteNumbers texts zs → WriteNumbers (text ∷ texts) (z ∷ zs)

-- S or D, which is 1 or 0, and N
abbrev pub signed_numbers : Bool → ℕ → List ℤ
signed_numbers s n = pos (cond s 1 0) ∷ pos n ∷ []

-- the numbers of a code: S or D and N, or N alone
abbrev pub numbers_of : (f : Field) → CodeOf f → List ℤ
numbers_of field.latitude c = signed_numbers c.0 c.1
numbers_of field.longitude c = c.0 ∷ []
numbers_of field.uncertainty c = pos c.0 ∷ []
numbers_of field.altitude_uncertainty c = pos c.0 ∷ []
numbers_of field.altitude c = signed_numbers c.0 c.1
numbers_of field.inner_radius c = pos c.0 ∷ []
numbers_of field.offset c = pos c.0 ∷ []
numbers_of field.included c = pos c.0 ∷ []
numbers_of field.orientation c = pos c.0 ∷ []
numbers_of field.bearing c = pos c.0 ∷ []
numbers_of field.horizontal_speed c = pos c.0 ∷ []
numbers_of field.vertical_speed c = signed_numbers c.0 c.1
numbers_of field.uncertainty_speed c = pos c.0 ∷ []
numbers_of field.confidence c = pos c.0 ∷ []
