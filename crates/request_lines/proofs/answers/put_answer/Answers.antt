-- The number, a space, the answer and the newline, one after the other.
use native.Mathlib.Omega.{arith}
use Rattle.text.proofs.OutputLaws.{decimal-most}
use Rattle.text.proofs.WithinLaws.{octet-within, decimal-within, after}
use Rattle.request_lines.specs.Answers.{choice_text}
use Rattle.request_lines.proofs.answers.put_answer.Goals as goal

pub put_decimal-space-requires : goal.put_decimal-space-requires
put_decimal-space-requires c = omega (arith, decimal-most {n = c.args.number} (omega arith))

pub put_byte-said-requires : goal.put_byte-said-requires
put_byte-said-requires c =
    let number = decimal-within (omega arith) c.put_decimal-space.ensures in
    omega (arith, number.within)

pub put_said-end-requires-clause-at_in_bounds : goal.put_said-end-requires-clause-at_in_bounds
put_said-end-requires-clause-at_in_bounds c =
    let number = decimal-within (omega arith) c.put_decimal-space.ensures in
    omega (arith, number.within, c.put_byte-said.ensures.place)

pub put_byte-requires : goal.put_byte-requires
put_byte-requires c =
    let number = decimal-within (omega arith) c.put_decimal-space.ensures in
    omega (arith, number.within, c.put_byte-said.ensures.place, c.put_said-end.ensures.within)

pub returns : goal.returns
unfolding choice_text
returns c =
    let number = decimal-within (omega arith) c.put_decimal-space.ensures in
    let space = octet-within c.put_byte-said.ensures in
    let newline = octet-within c.put_byte.ensures in
    after (after number (after space c.put_said-end.ensures)) newline
