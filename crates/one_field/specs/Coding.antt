-- A code in plain numbers, and the promise of a function that tells what a coder says.
use Rattle.std.specs.Prelude.{◌≡◌, ℕ, Result, Some, None}
use Rattle.ground.specs.Answers.{Said, tells}
use Rattle.ground.specs.declared.quantity.Nanodegrees.{Nanodegrees}
use Rattle.ground.specs.declared.refusals.Refusal.{Refusal}
use Rattle.ground.specs.declared.said.SaidCode.{SaidCode}
use Rattle.ground.specs.declared.said.SaidCode.TheVariants.{Natural, Signed, Longitude}
use Rattle.one_field.specs.declared.coding.Coordinate.{Coordinate}
use Rattle.one_field.specs.declared.coding.Coordinate.TheVariants as coordinate
use Rattle.one_field.specs.declared.coding.Unsigned.{Unsigned}
use Rattle.one_field.specs.declared.coding.Unsigned.TheVariants as unsigned
use Rattle.one_field.specs.declared.coding.Markable.{Markable}
use Rattle.one_field.specs.declared.coding.Markable.TheVariants as markable
use Rattle.fields.specs.Fields.{Field, CodeOf, QuantityOf, Coding}
use Rattle.fields.specs.Fields as field

-- a code in plain numbers: a sign and a number, or one number
abbrev pub said_code_numbers : (f : Field) → CodeOf f → SaidCode
said_code_numbers field.latitude c = Signed (record { 0 = c.0; 1 = c.1 })
said_code_numbers field.longitude c = Longitude c
said_code_numbers field.uncertainty c = Natural c.0
said_code_numbers field.altitude_uncertainty c = Natural c.0
said_code_numbers field.altitude c = Signed (record { 0 = c.0; 1 = c.1 })
said_code_numbers field.inner_radius c = Natural c.0
said_code_numbers field.offset c = Natural c.0
said_code_numbers field.included c = Natural c.0
said_code_numbers field.orientation c = Natural c.0
said_code_numbers field.bearing c = Natural c.0
said_code_numbers field.horizontal_speed c = Natural c.0
said_code_numbers field.vertical_speed c = Signed (record { 0 = c.0; 1 = c.1 })
said_code_numbers field.uncertainty_speed c = Natural c.0
said_code_numbers field.confidence c = Natural c.0

-- how many numbers it has
abbrev pub count_of : Field → ℕ
count_of field.latitude = 2
count_of field.longitude = 1
count_of field.uncertainty = 1
count_of field.altitude_uncertainty = 1
count_of field.altitude = 2
count_of field.inner_radius = 1
count_of field.offset = 1
count_of field.included = 1
count_of field.orientation = 1
count_of field.bearing = 1
count_of field.horizontal_speed = 1
count_of field.vertical_speed = 2
count_of field.uncertainty_speed = 1
count_of field.confidence = 1

-- r tells what a coder that keeps its promise says of x
pub record TellsCode (f : Field) (x : QuantityOf f) (r : Result SaidCode Refusal) : Type 0 where
  pub said : Said (CodeOf f)
  pub promise : Coding f x said
  pub told : r ≡ tells (said_code_numbers f) said

abbrev pub TellsCoordinate : Coordinate → Nanodegrees → Result SaidCode Refusal → Type 0
TellsCoordinate coordinate.Latitude x r = TellsCode field.latitude x r
TellsCoordinate coordinate.Longitude x r = TellsCode field.longitude x r

abbrev pub TellsUnsigned : Unsigned → ℕ → Result SaidCode Refusal → Type 0
TellsUnsigned unsigned.Uncertainty x r = TellsCode field.uncertainty (record { 0 = x }) r
TellsUnsigned unsigned.AltitudeUncertainty x r = TellsCode field.altitude_uncertainty (record { 0 = x }) r
TellsUnsigned unsigned.InnerRadius x r = TellsCode field.inner_radius (record { 0 = x }) r
TellsUnsigned unsigned.Offset x r = TellsCode field.offset (record { 0 = x }) r
TellsUnsigned unsigned.Included x r = TellsCode field.included (record { 0 = x }) r
TellsUnsigned unsigned.Orientation x r = TellsCode field.orientation (record { 0 = x }) r
TellsUnsigned unsigned.Bearing x r = TellsCode field.bearing (record { 0 = x }) r
TellsUnsigned unsigned.HorizontalSpeed x r = TellsCode field.horizontal_speed (record { 0 = x }) r
TellsUnsigned unsigned.UncertaintySpeed x r = TellsCode field.uncertainty_speed (Some (record { 0 = x })) r
TellsUnsigned unsigned.Confidence x r = TellsCode field.confidence (Some (record { 0 = x })) r

abbrev pub TellsMissing : Markable → Result SaidCode Refusal → Type 0
TellsMissing markable.UncertaintySpeed r = TellsCode field.uncertainty_speed None r
TellsMissing markable.Confidence r = TellsCode field.confidence None r
