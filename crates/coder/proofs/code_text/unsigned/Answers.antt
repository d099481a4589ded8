-- `codes::unsigned` meets its contract: the text writes a number of 32 bits without a sign, or none.
use Rattle.text.proofs.SaysLaws.{unsigned-says, unsigned-none, unsigned-unread}
use Rattle.coder.proofs.CodeLaws.{unsigned-coded, unsigned-uncoded}
use Rattle.coder.proofs.code_text.unsigned.Goals as goal

pub returns-in_default : goal.returns-in_default
returns-in_default c =
    let given = c.args in
    let number_in = c.number_in in
    let unsigned-32 = c.unsigned_32 in
    unsigned-uncoded given.field given.text.now (unsigned-unread (unsigned-none given.text.now number_in.ensures c.in_default.is unsigned-32.ensures))

pub returns : goal.returns
returns c =
    let given = c.args in
    let number_in = c.number_in in
    let unsigned-32 = c.unsigned_32 in
    let read = c.in-Some in
    let coded-unsigned = c.coded_unsigned in
    let line-of-code = c.line_of_code in
    unsigned-coded given.field coded-unsigned.result (unsigned-says given.text.now number_in.ensures read.is unsigned-32.ensures) coded-unsigned.ensures line-of-code.ensures
