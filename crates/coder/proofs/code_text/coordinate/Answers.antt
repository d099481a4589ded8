-- `codes::coordinate` meets its contract: the text writes a number of 64 bits, or none.
use mathlib.Core.Path.{subst}
use mir.Syntax.{w64}
use mir.Facts.{to_z-of_z}
use Rattle.ground.specs.declared.signs.Parts.{Parts}
use Rattle.std.specs.Prelude.{Option}
use Rattle.text.specs.Widths.{AsSigned64}
use Rattle.text.proofs.SaysLaws.{coordinate-says, no-coordinate}
use Rattle.coder.proofs.CodeLaws.{coordinate-coded, coordinate-uncoded}
use borrow.Author.Rules.{rules}
use Rattle.coder.proofs.code_text.coordinate.Goals as goal

pub returns-in_default : goal.returns-in_default
returns-in_default c =
    let given = c.args in
    let number_in = c.number_in in
    let signed-64 = c.signed_64 in
    coordinate-uncoded given.field given.text.now (λ z s. no-coordinate given.text.now (subst (λ (n : Option Parts). AsSigned64 n signed-64.result) number_in.ensures signed-64.ensures) c.in_default.is s)

pub returns : goal.returns
returns c =
    let given = c.args in
    let number_in = c.number_in in
    let signed-64 = c.signed_64 in
    let read = c.in-Some in
    let coded-coordinate = c.coded_coordinate in
    let line-of-code = c.line_of_code in
    coordinate-coded given.field coded-coordinate.result (coordinate-says given.text.now (subst (λ (n : Option Parts). AsSigned64 n signed-64.result) number_in.ensures signed-64.ensures) read.is) (rw (to_z-of_z {w = w64} {z = read.x} (search rules)) at coded-coordinate.ensures) line-of-code.ensures
