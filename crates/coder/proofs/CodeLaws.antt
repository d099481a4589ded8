-- A text that was read as a number of some width writes a quantity, or none where there was no such number.
use Rattle.std.specs.Prelude.{Option, Some, None, Result}
use mathlib.Core.Path.{◌≡◌, refl, sym, subst, ◌∙◌}
use mathlib.Core.Bool.{Bool, true, false}
use mathlib.Core.List.{List}
use Prim.Native.Nat.{ℕ}
use lib.Dec.{T}
use lib.IntN.{ℤ}
use Rattle.ground.specs.declared.refusals.Refusal.{Refusal}
use Rattle.ground.specs.declared.said.SaidCode.{SaidCode}
use Rattle.ground.specs.declared.quantity.PerCent.{PerCent}
use Rattle.ground.specs.declared.quantity.MetresPerHour.{MetresPerHour}
use Rattle.fields.specs.Fields.{Field, QuantityOf}
use Rattle.fields.specs.Fields as field
use Rattle.one_field.specs.declared.coding.Coordinate.{Coordinate}
use Rattle.one_field.specs.declared.coding.Coordinate.TheVariants as coordinate
use Rattle.one_field.specs.declared.coding.Unsigned.{Unsigned}
use Rattle.one_field.specs.declared.coding.Unsigned.TheVariants as unsigned
use Rattle.one_field.specs.Coding.{TellsCoordinate, TellsUnsigned}
use Rattle.text.specs.LineFields.{IsAbsent, SaysSigned, SaysUnsigned, fields_of, SaysConfidence}
use Rattle.text.proofs.LineFieldLaws.{alone, number-uncut}
use Rattle.text.specs.AnswerLines.{line_of_code}
use Rattle.text.specs.declared.said.SaidLine.{SaidLine}
use Rattle.text.specs.declared.said.SaidLine.TheVariants.{Unreadable}
use Rattle.coder.specs.Written.{TextSays, WritesUncertaintySpeed}
use Rattle.coder.specs.FieldTexts.{CodesText, coded, no_quantity, coordinate_field, CodesUnsigned}

-- what a test that is false refutes
pub untrue : {P : Type 0} {r : Bool} → r ≡ false → (P → r ≡ true) → P → ⊥
untrue e f p = let q : true ≡ false = sym (f p) ∙ e in subst T q tt

pub unwritten : (f : Field) (text : List ℕ) → ((x : QuantityOf f) → TextSays f text x → ⊥) → CodesText f (fields_of text) Unreadable
unwritten f text h = no_quantity (λ t x e w. h x (subst (λ (s : List ℕ). TextSays f s x) (alone text e) w)) refl

-- ---- coordinates

pub coordinate-coded : (k : Coordinate) {text : List ℕ} {x : ℤ} (a : Result SaidCode Refusal) {r : SaidLine} → SaysSigned 64 text x → TellsCoordinate k (record { 0 = x }) a → r ≡ line_of_code a → CodesText (coordinate_field k) (fields_of text) r
coordinate-coded coordinate.Latitude {text} a s t p = coded (number-uncut text s.means) s t p
coordinate-coded coordinate.Longitude {text} a s t p = coded (number-uncut text s.means) s t p

pub coordinate-uncoded : (k : Coordinate) (text : List ℕ) → ((z : ℤ) → SaysSigned 64 text z → ⊥) → CodesText (coordinate_field k) (fields_of text) Unreadable
coordinate-uncoded coordinate.Latitude text h = unwritten field.latitude text (λ x s. h x.0 s)
coordinate-uncoded coordinate.Longitude text h = unwritten field.longitude text (λ x s. h x.0 s)

-- ---- what has no sign

module _ (text : List ℕ) (h : (n : ℕ) → SaysUnsigned text n → ⊥) (d : IsAbsent text → ⊥) where
  no-speed : (x : Option MetresPerHour) → WritesUncertaintySpeed text x → ⊥
  no-speed (Some s) w = h s.0 w
  no-speed None w = d w

  no-confidence : (x : Option PerCent) → SaysConfidence text x → ⊥
  no-confidence (Some p) w = h p.0 w
  no-confidence None w = d w

pub unsigned-coded : (k : Unsigned) {text : List ℕ} {n : ℕ} (a : Result SaidCode Refusal) {r : SaidLine} → SaysUnsigned text n → TellsUnsigned k n a → r ≡ line_of_code a → CodesUnsigned k text r
unsigned-coded unsigned.Uncertainty {text} a s t p = coded (number-uncut text s.means) s t p
unsigned-coded unsigned.AltitudeUncertainty {text} a s t p = coded (number-uncut text s.means) s t p
unsigned-coded unsigned.InnerRadius {text} a s t p = coded (number-uncut text s.means) s t p
unsigned-coded unsigned.Offset {text} a s t p = coded (number-uncut text s.means) s t p
unsigned-coded unsigned.Included {text} a s t p = coded (number-uncut text s.means) s t p
unsigned-coded unsigned.Orientation {text} a s t p = coded (number-uncut text s.means) s t p
unsigned-coded unsigned.Bearing {text} a s t p = coded (number-uncut text s.means) s t p
unsigned-coded unsigned.HorizontalSpeed {text} a s t p = coded (number-uncut text s.means) s t p
unsigned-coded unsigned.UncertaintySpeed {text} a s t p = λ d. coded (number-uncut text s.means) s t p
unsigned-coded unsigned.Confidence {text} a s t p = λ d. coded (number-uncut text s.means) s t p

pub unsigned-uncoded : (k : Unsigned) (text : List ℕ) → ((n : ℕ) → SaysUnsigned text n → ⊥) → CodesUnsigned k text Unreadable
unsigned-uncoded unsigned.Uncertainty text h = unwritten field.uncertainty text (λ x s. h x.0 s)
unsigned-uncoded unsigned.AltitudeUncertainty text h = unwritten field.altitude_uncertainty text (λ x s. h x.0 s)
unsigned-uncoded unsigned.InnerRadius text h = unwritten field.inner_radius text (λ x s. h x.0 s)
unsigned-uncoded unsigned.Offset text h = unwritten field.offset text (λ x s. h x.0 s)
unsigned-uncoded unsigned.Included text h = unwritten field.included text (λ x s. h x.0 s)
unsigned-uncoded unsigned.Orientation text h = unwritten field.orientation text (λ x s. h x.0 s)
unsigned-uncoded unsigned.Bearing text h = unwritten field.bearing text (λ x s. h x.0 s)
unsigned-uncoded unsigned.HorizontalSpeed text h = unwritten field.horizontal_speed text (λ x s. h x.0 s)
unsigned-uncoded unsigned.UncertaintySpeed text h = λ d. unwritten field.uncertainty_speed text (no-speed text h d)
unsigned-uncoded unsigned.Confidence text h = λ d. unwritten field.confidence text (no-confidence text h d)
