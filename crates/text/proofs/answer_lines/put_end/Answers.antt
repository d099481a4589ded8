-- The word, the number and the newline, one after the other.
use Rattle.std.proofs.Common.{arith}
use Rattle.text.proofs.OutputLaws.{decimal-most}
use Rattle.text.specs.AnswerLines.{end_text}
use Rattle.text.proofs.WithinLaws.{within, octet-within, decimal-within, after, fewer}
use Rattle.text.proofs.answer_lines.put_end.Goals as goal

pub put_decimal-newline-requires : goal.put_decimal-newline-requires
put_decimal-newline-requires c =
    omega (arith, decimal-most {n = c.args.lines} (omega arith), c.put_bytes-number.ensures.place)

pub put_byte-requires : goal.put_byte-requires
put_byte-requires c =
    let number = decimal-within (omega arith) c.put_decimal-newline.ensures in
    omega (arith, number.within, c.put_bytes-number.ensures.place)

pub returns : goal.returns
unfolding end_text
returns c =
    let word = within {most = 4} (omega arith) c.put_bytes-number.ensures in
    let number = decimal-within (omega arith) c.put_decimal-newline.ensures in
    let newline = octet-within c.put_byte.ensures in
    fewer (omega arith) (after word (after number newline))
