-- By the answer: a dash, the refusal's number, or 0 and the octets.
use Prim.Native.Nat.{◌≤◌}
use lib.ListN.{length}
use native.Mathlib.Omega.{arith}
use Rattle.text.proofs.OutputLaws.{decimal-most}
use Rattle.text.proofs.WithinLaws.{within, octet-within, decimal-within, after, fewer}
use Rattle.text.specs.Text.{octets_text}
use Rattle.text.proofs.OctetLaws.{octets-length}
use Rattle.request_lines.specs.Answers.{said_text}
use Rattle.request_lines.proofs.answers.put_said.Goals as goal

pub returns-in-Unreadable : goal.returns-in-Unreadable
unfolding said_text
returns-in-Unreadable c = rw c.in-Unreadable.is (within (omega arith) c.put_byte.ensures)

pub put_decimal-requires : goal.put_decimal-requires
put_decimal-requires c = omega (arith, decimal-most {n = c.from.result} (omega arith))

pub returns-in-Refused : goal.returns-in-Refused
unfolding said_text
returns-in-Refused c =
    let p = fewer {n = 43} (omega arith) (decimal-within (omega arith) c.put_decimal.ensures) in
    rw (c.in-Refused.is, ← c.from.ensures) p

pub returns-in-Message : goal.returns-in-Message
unfolding said_text
returns-in-Message c =
    let short = rw c.in-Message.is at c.requires.message_len_bound in
    let most : length (octets_text c.in-Message.message.now) ≤ 42 = omega (arith, short, octets-length c.in-Message.message.now) in
    rw c.in-Message.is (after (octet-within c.put_byte-next.ensures) (within most c.put_octets.ensures))
