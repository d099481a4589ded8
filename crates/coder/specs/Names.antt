-- The words of the coder's lines, in octets.
use Rattle.std.specs.Prelude.{◌≡◌, List, [], ◌∷◌, ℕ, Option, Some, None}
use Rattle.fields.specs.Fields.{Field}
use Rattle.fields.specs.Fields as field
use Rattle.coder.specs.declared.names.Verb.{Verb}
use Rattle.coder.specs.declared.names.Verb.TheVariants.{Code, Report}
use Rattle.coder.specs.declared.names.Name.{Name}
use Rattle.coder.specs.declared.names.Name.TheVariants as name

-- code
unfoldable pub code_verb : List ℕ
code_verb = 99 ∷ 111 ∷ 100 ∷ 101 ∷ []

-- report
unfoldable pub report_verb : List ℕ
report_verb = 114 ∷ 101 ∷ 112 ∷ 111 ∷ 114 ∷ 116 ∷ []

-- the name of a field
unfoldable pub name_of : Field → List ℕ
-- latitude
name_of field.latitude = 108 ∷ 97 ∷ 116 ∷ 105 ∷ 116 ∷ 117 ∷ 100 ∷ 101 ∷ []
-- longitude
name_of field.longitude = 108 ∷ 111 ∷ 110 ∷ 103 ∷ 105 ∷ 116 ∷ 117 ∷ 100 ∷ 101 ∷ []
-- uncertainty
name_of field.uncertainty = 117 ∷ 110 ∷ 99 ∷ 101 ∷ 114 ∷ 116 ∷ 97 ∷ 105 ∷ 110 ∷ 116 ∷ 121 ∷ []
-- altitude-uncertainty
name_of field.altitude_uncertainty = 97 ∷ 108 ∷ 116 ∷ 105 ∷ 116 ∷ 117 ∷ 100 ∷ 101 ∷ 45 ∷ 117 ∷ 110 ∷ 99 ∷ 101 ∷ 114 ∷ 116 ∷ 97 ∷ 105 ∷ 110 ∷ 116 ∷ 121 ∷ []
-- altitude
name_of field.altitude = 97 ∷ 108 ∷ 116 ∷ 105 ∷ 116 ∷ 117 ∷ 100 ∷ 101 ∷ []
-- inner_radius
name_of field.inner_radius = 105 ∷ 110 ∷ 110 ∷ 101 ∷ 114 ∷ 45 ∷ 114 ∷ 97 ∷ 100 ∷ 105 ∷ 117 ∷ 115 ∷ []
-- offset
name_of field.offset = 111 ∷ 102 ∷ 102 ∷ 115 ∷ 101 ∷ 116 ∷ []
-- included
name_of field.included = 105 ∷ 110 ∷ 99 ∷ 108 ∷ 117 ∷ 100 ∷ 101 ∷ 100 ∷ []
-- orientation
name_of field.orientation = 111 ∷ 114 ∷ 105 ∷ 101 ∷ 110 ∷ 116 ∷ 97 ∷ 116 ∷ 105 ∷ 111 ∷ 110 ∷ []
-- bearing
name_of field.bearing = 98 ∷ 101 ∷ 97 ∷ 114 ∷ 105 ∷ 110 ∷ 103 ∷ []
-- horizontal-speed
name_of field.horizontal_speed = 104 ∷ 111 ∷ 114 ∷ 105 ∷ 122 ∷ 111 ∷ 110 ∷ 116 ∷ 97 ∷ 108 ∷ 45 ∷ 115 ∷ 112 ∷ 101 ∷ 101 ∷ 100 ∷ []
-- vertical_speed
name_of field.vertical_speed = 118 ∷ 101 ∷ 114 ∷ 116 ∷ 105 ∷ 99 ∷ 97 ∷ 108 ∷ 45 ∷ 115 ∷ 112 ∷ 101 ∷ 101 ∷ 100 ∷ []
-- uncertainty-speed
name_of field.uncertainty_speed = 117 ∷ 110 ∷ 99 ∷ 101 ∷ 114 ∷ 116 ∷ 97 ∷ 105 ∷ 110 ∷ 116 ∷ 121 ∷ 45 ∷ 115 ∷ 112 ∷ 101 ∷ 101 ∷ 100 ∷ []
-- confidence
name_of field.confidence = 99 ∷ 111 ∷ 110 ∷ 102 ∷ 105 ∷ 100 ∷ 101 ∷ 110 ∷ 99 ∷ 101 ∷ []

-- ---- what the code takes a word for

abbrev pub field_of : Name → Field
field_of name.Latitude = field.latitude
field_of name.Longitude = field.longitude
field_of name.Uncertainty = field.uncertainty
field_of name.AltitudeUncertainty = field.altitude_uncertainty
field_of name.Altitude = field.altitude
field_of name.InnerRadius = field.inner_radius
field_of name.Offset = field.offset
field_of name.Included = field.included
field_of name.Orientation = field.orientation
field_of name.Bearing = field.bearing
field_of name.HorizontalSpeed = field.horizontal_speed
field_of name.VerticalSpeed = field.vertical_speed
field_of name.UncertaintySpeed = field.uncertainty_speed
field_of name.Confidence = field.confidence

-- the verb that the word is, or neither
abbrev pub IsVerb : List ℕ → Option Verb → Type 0
IsVerb word (Some Code) = word ≡ code_verb
IsVerb word (Some Report) = word ≡ report_verb
IsVerb word None = (word ≡ code_verb → ⊥) × (word ≡ report_verb → ⊥)

-- the name that the word is, or none
abbrev pub IsName : List ℕ → Option Name → Type 0
IsName word (Some n) = word ≡ name_of (field_of n)
IsName word None = (f : Field) → word ≡ name_of f → ⊥
