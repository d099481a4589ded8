-- A quantity in plain numbers, and the promise of a function that tells what a reporter says.
use Rattle.std.specs.Prelude.{◌≡◌, Bool, ℕ, Result, Err, Option, Some, None}
use Rattle.ground.specs.Answers.{Said, tells}
use Rattle.ground.specs.declared.refusals.Refusal.{Refusal}
use Rattle.ground.specs.declared.refusals.Refusal.TheVariants.{AngleCode, ConfidenceTooLarge, OutOfRange}
use Rattle.ground.specs.declared.quantity.Millidegrees.{Millidegrees}
use Rattle.ground.specs.declared.quantity.Millimetres.{Millimetres}
use Rattle.ground.specs.declared.said.SaidQuantity.{SaidQuantity}
use Rattle.ground.specs.declared.said.SaidQuantity.TheVariants.{Natural, Coordinate, Altitude, VerticalSpeed, Missing}
use Rattle.ground.specs.declared.quantity.PerCent.{PerCent}
use Rattle.ground.specs.declared.quantity.MetresPerHour.{MetresPerHour}
use Rattle.one_field.specs.declared.reporting.Byte.{Byte}
use Rattle.one_field.specs.declared.reporting.Byte.TheVariants as byte
use Rattle.one_field.specs.declared.reporting.Word.{Word}
use Rattle.one_field.specs.declared.reporting.Word.TheVariants as word
use Rattle.one_field.specs.declared.reporting.Signed.{Signed}
use Rattle.one_field.specs.declared.reporting.Signed.TheVariants as signed
use Rattle.fields.specs.Fields.{Field, CodeOf, QuantityOf, Reporting}
use Rattle.fields.specs.Fields as field

abbrev pub said_length_number : Millimetres → SaidQuantity
said_length_number x = Natural x.0

abbrev pub said_angle_number : Millidegrees → SaidQuantity
said_angle_number x = Natural x.0

abbrev pub said_uncertainty_speed_number : Option MetresPerHour → SaidQuantity
said_uncertainty_speed_number (Some s) = Natural s.0
said_uncertainty_speed_number None = Missing

abbrev pub said_confidence_number : Option PerCent → SaidQuantity
said_confidence_number (Some p) = Natural p.0
said_confidence_number None = Missing

-- a quantity in plain numbers: its number, or the mark of a missing one
abbrev pub said_quantity_number : (f : Field) → QuantityOf f → SaidQuantity
said_quantity_number field.latitude x = Coordinate x
said_quantity_number field.longitude x = Coordinate x
said_quantity_number field.uncertainty x = said_length_number x
said_quantity_number field.altitude_uncertainty x = said_length_number x
said_quantity_number field.altitude x = Altitude x
said_quantity_number field.inner_radius x = said_length_number x
said_quantity_number field.offset x = said_angle_number x
said_quantity_number field.included x = said_angle_number x
said_quantity_number field.orientation x = said_angle_number x
said_quantity_number field.bearing x = said_angle_number x
said_quantity_number field.horizontal_speed x = Natural x.0
said_quantity_number field.vertical_speed x = VerticalSpeed x
said_quantity_number field.uncertainty_speed x = said_uncertainty_speed_number x
said_quantity_number field.confidence x = said_confidence_number x

-- r tells what a reporter that keeps its promise says of the code c
pub record TellsQuantity (f : Field) (c : CodeOf f) (r : Result SaidQuantity Refusal) : Type 0 where
  pub said : Said (QuantityOf f)
  pub promise : Reporting f c said
  pub told : r ≡ tells (said_quantity_number f) said

abbrev pub TellsByte : Byte → ℕ → Result SaidQuantity Refusal → Type 0
TellsByte byte.Uncertainty n r = TellsQuantity field.uncertainty (record { 0 = n }) r
TellsByte byte.AltitudeUncertainty n r = TellsQuantity field.altitude_uncertainty (record { 0 = n }) r
TellsByte byte.Offset n r = TellsQuantity field.offset (record { 0 = n }) r
TellsByte byte.Included n r = TellsQuantity field.included (record { 0 = n }) r
TellsByte byte.Orientation n r = TellsQuantity field.orientation (record { 0 = n }) r
TellsByte byte.UncertaintySpeed n r = TellsQuantity field.uncertainty_speed (record { 0 = n }) r
TellsByte byte.Confidence n r = TellsQuantity field.confidence (record { 0 = n }) r

abbrev pub TellsWord : Word → ℕ → Result SaidQuantity Refusal → Type 0
TellsWord word.InnerRadius n r = TellsQuantity field.inner_radius (record { 0 = n }) r
TellsWord word.Bearing n r = TellsQuantity field.bearing (record { 0 = n }) r
TellsWord word.HorizontalSpeed n r = TellsQuantity field.horizontal_speed (record { 0 = n }) r

abbrev pub TellsSigned : Signed → Bool → ℕ → Result SaidQuantity Refusal → Type 0
TellsSigned signed.Latitude s n r = TellsQuantity field.latitude (record { 0 = s; 1 = n }) r
TellsSigned signed.Altitude s n r = TellsQuantity field.altitude (record { 0 = s; 1 = n }) r
TellsSigned signed.VerticalSpeed s n r = TellsQuantity field.vertical_speed (record { 0 = s; 1 = n }) r

-- what a number that 8 or 16 bits can't hold is refused with
abbrev pub above_byte : Byte → Result SaidQuantity Refusal
above_byte byte.Uncertainty = Err OutOfRange
above_byte byte.AltitudeUncertainty = Err OutOfRange
above_byte byte.Offset = Err AngleCode
above_byte byte.Included = Err AngleCode
above_byte byte.Orientation = Err AngleCode
above_byte byte.UncertaintySpeed = Err OutOfRange
above_byte byte.Confidence = Err ConfidenceTooLarge

abbrev pub above_word : Word → Result SaidQuantity Refusal
above_word word.InnerRadius = Err OutOfRange
above_word word.Bearing = Err AngleCode
above_word word.HorizontalSpeed = Err OutOfRange
