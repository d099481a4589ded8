-- `codes::vertical_speed` meets its contract: the text writes a number of 32 bits with a sign, or none.
use mir.Syntax.{w32}
use mir.Facts.{to_z-of_z}
use Rattle.fields.specs.Fields.{vertical_speed}
use Rattle.text.proofs.SaysLaws.{signed-says, signed-none}
use Rattle.text.proofs.LineFieldLaws.{number-uncut}
use Rattle.coder.specs.FieldTexts.{coded}
use Rattle.coder.proofs.CodeLaws.{unwritten}
use borrow.Author.Rules.{rules}
use Rattle.coder.proofs.code_text.vertical_speed.Goals as goal

pub returns-in_default : goal.returns-in_default
returns-in_default c =
    let given = c.args in
    let number_in = c.number_in in
    let signed-32 = c.signed_32 in
    unwritten vertical_speed given.text.now (λ x s. signed-none given.text.now number_in.ensures c.in_default.is signed-32.ensures x.0 s.means s.fits)

pub returns : goal.returns
returns c =
    let given = c.args in
    let number_in = c.number_in in
    let signed-32 = c.signed_32 in
    let read = c.in-Some in
    let coded-vertical-speed = c.coded_vertical_speed in
    let line-of-code = c.line_of_code in
    let says = signed-says given.text.now number_in.ensures read.is signed-32.ensures in coded (number-uncut given.text.now says.means) says (rw (to_z-of_z {w = w32} {z = read.x} (search rules)) at coded-vertical-speed.ensures) line-of-code.ensures
