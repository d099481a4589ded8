-- `quantity::reported` meets its contract: each number is a field's.
use mathlib.Core.Path.{sym}
use Rattle.fields.specs.Fields as field
use Rattle.field_arrays.specs.Fields.{of_field}
use Rattle.field_arrays.proofs.quantity.reported.Goals as goal

pub returns-in-0 : goal.returns-in-0
returns-in-0 c = of_field {f = field.latitude} (sym c.in-0.is) c.signed.ensures

pub returns-in-1 : goal.returns-in-1
returns-in-1 c = of_field {f = field.longitude} (sym c.in-1.is) c.longitude.ensures

pub returns-in-2 : goal.returns-in-2
returns-in-2 c = of_field {f = field.uncertainty} (sym c.in-2.is) c.byte.ensures

pub returns-in-3 : goal.returns-in-3
returns-in-3 c = of_field {f = field.altitude_uncertainty} (sym c.in-3.is) c.byte-in-3.ensures

pub returns-in-4 : goal.returns-in-4
returns-in-4 c = of_field {f = field.altitude} (sym c.in-4.is) c.signed-in-4.ensures

pub returns-in-5 : goal.returns-in-5
returns-in-5 c = of_field {f = field.inner_radius} (sym c.in-5.is) c.word.ensures

pub returns-in-6 : goal.returns-in-6
returns-in-6 c = of_field {f = field.offset} (sym c.in-6.is) c.byte-in-6.ensures

pub returns-in-7 : goal.returns-in-7
returns-in-7 c = of_field {f = field.included} (sym c.in-7.is) c.byte-in-7.ensures

pub returns-in-8 : goal.returns-in-8
returns-in-8 c = of_field {f = field.orientation} (sym c.in-8.is) c.byte-in-8.ensures

pub returns-in-9 : goal.returns-in-9
returns-in-9 c = of_field {f = field.bearing} (sym c.in-9.is) c.word-in-9.ensures

pub returns-in-10 : goal.returns-in-10
returns-in-10 c = of_field {f = field.horizontal_speed} (sym c.in-10.is) c.word-in-10.ensures

pub returns-in-11 : goal.returns-in-11
returns-in-11 c = of_field {f = field.vertical_speed} (sym c.in-11.is) c.signed-in-11.ensures

pub returns-in-12 : goal.returns-in-12
returns-in-12 c = of_field {f = field.uncertainty_speed} (sym c.in-12.is) c.byte-in-12.ensures

pub returns-in-13 : goal.returns-in-13
returns-in-13 c = of_field {f = field.confidence} (sym c.in-13.is) c.byte-in-13.ensures
