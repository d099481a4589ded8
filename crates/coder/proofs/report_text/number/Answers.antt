-- A number, one below zero, or none.
use mathlib.Core.Path.{refl}
use Rattle.coder.specs.FieldTexts.{of_number, below, nothing}
use Rattle.coder.proofs.ReportLaws.{size-code, size_below, size-nothing}
use Rattle.coder.proofs.report_text.number.Goals as goal

pub returns-in-Code : goal.returns-in-Code
returns-in-Code g c = of_number (size-code c.args.text.now c.number_in.ensures c.size_of.ensures c.in-Code.is) (rw c.capped.ensures at c.report.ensures) c.line_of_quantity.ensures

pub returns-in-Below : goal.returns-in-Below
returns-in-Below g c = below (size_below c.args.text.now c.number_in.ensures c.size_of.ensures c.in-Below.is) c.no_code.ensures

pub returns-in-Nothing : goal.returns-in-Nothing
returns-in-Nothing g c = nothing (size-nothing c.args.text.now c.number_in.ensures c.size_of.ensures c.in-Nothing.is) refl
