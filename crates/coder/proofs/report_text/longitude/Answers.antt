-- A number of 32 bits, one outside them, or none.
use mathlib.Core.Path.{refl, sym, ◌∙◌}
use mir.Syntax.{w32}
use mir.Facts.{to_z-of_z}
use Rattle.fields.specs.Fields.{longitude}
use Rattle.text.proofs.SaysLaws.{signed-says, signed-none}
use Rattle.coder.proofs.ReportLaws.{longitude-outside, longitude-reported, nothing-reported}
use borrow.Author.Rules.{rules}
use Rattle.coder.proofs.report_text.longitude.Goals as goal

pub returns-in_default : goal.returns-in_default
returns-in_default c = nothing-reported longitude refl c.args.text.now (sym c.number_in.ensures ∙ c.in_default.is)

pub returns-in_default-signed_32 : goal.returns-in_default-signed_32
returns-in_default-signed_32 c =
    let written = sym c.number_in.ensures ∙ c.in-Some.is in
    rw c.no_code.ensures (longitude-outside c.args.text.now written (signed-none c.args.text.now (sym written) c.in_default-signed_32.is c.signed_32.ensures))

pub returns : goal.returns
returns c =
    let written = sym c.number_in.ensures ∙ c.in-Some.is in
    let read = c.in-Some-signed_32 in
    longitude-reported c.args.text.now (signed-says c.args.text.now (sym written) read.is c.signed_32.ensures).means (rw (to_z-of_z {w = w32} {z = read.x} (search rules)) at c.reported_longitude.ensures) c.line_of_quantity.ensures
