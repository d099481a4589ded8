-- By what is said: each text is no longer than 24 octets.
use Rattle.std.proofs.Common.{arith, rules}
use Rattle.text.proofs.OutputLaws.{decimal-most, signed-most}
use Rattle.text.specs.AnswerLines.{said_line_text}
use Rattle.text.proofs.WithinLaws.{within, octet-within, decimal-within, signed-within, after, fewer}
use Rattle.text.proofs.answer_lines.put_said.Goals as goal

pub put_decimal-requires : goal.put_decimal-requires
put_decimal-requires c = omega (arith, decimal-most {n = c.in-Refused.number} (omega arith))

pub put_number-requires : goal.put_number-requires
put_number-requires c =
    let number = signed-most c.in-One.x.0 (search rules) in
    omega (arith, number, c.put_bytes-next.ensures.place)

pub put_number-requires-in-Two : goal.put_number-requires-in-Two
put_number-requires-in-Two c =
    let number = signed-most c.in-Two.x.0 (search rules) in
    omega (arith, number, c.put_sign-next.ensures.within)

pub returns-in-Unreadable : goal.returns-in-Unreadable
unfolding said_line_text
returns-in-Unreadable c =
    rw c.in-Unreadable.is (fewer (omega arith) (octet-within c.put_byte.ensures))

pub returns-in-Refused : goal.returns-in-Refused
unfolding said_line_text
returns-in-Refused c =
    let number = decimal-within (omega arith) c.put_decimal.ensures in
    rw c.in-Refused.is (fewer (omega arith) number)

pub returns-in-Missing : goal.returns-in-Missing
unfolding said_line_text
returns-in-Missing c =
    rw c.in-Missing.is (within (omega arith) c.put_bytes.ensures)

pub returns-in-One : goal.returns-in-One
unfolding said_line_text
returns-in-One c =
    let done = within {most = 2} (omega arith) c.put_bytes-next.ensures in
    let number = signed-within (search rules) c.put_number.ensures in
    rw c.in-One.is (fewer (omega arith) (after done number))

pub returns-in-Two : goal.returns-in-Two
unfolding said_line_text
returns-in-Two c =
    let number = signed-within (search rules) c.put_number-in-Two.ensures in
    rw c.in-Two.is (after c.put_sign-next.ensures number)
