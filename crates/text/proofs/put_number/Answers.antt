-- The sign says whether a minus sign is put, and the size is put after it.
use Rattle.std.proofs.Common.{length, ap, arith}
use Rattle.text.proofs.OutputLaws.{then, minus-text, plus-text}
use Rattle.text.proofs.put_number.Goals as goal

pub put_byte-next-requires : goal.put_byte-next-requires
put_byte-next-requires c =
    let x = c.args.x.0 in
    let p = c.taken_apart-parts in
    let e = minus-text x p.result p.ensures c.if-parts.true in
    omega (arith, ap length e)

pub put_decimal-requires : goal.put_decimal-requires
put_decimal-requires c =
    let x = c.args.x.0 in
    let p = c.taken_apart-parts in
    let e = minus-text x p.result p.ensures c.if-parts.true in
    omega (arith, ap length e)

pub returns-then-parts : goal.returns-then-parts
returns-then-parts c =
    let x = c.args.x.0 in
    let p = c.taken_apart-parts in
    let e = minus-text x p.result p.ensures c.if-parts.true in
    rw e (then c.put_byte-next.ensures c.put_decimal.ensures)

pub put_decimal-requires-2 : goal.put_decimal-requires-2
put_decimal-requires-2 c =
    let x = c.args.x.0 in
    let p = c.taken_apart-parts in
    let e = plus-text x p.result p.ensures c.if-parts.false in
    omega (arith, ap length e)

pub returns : goal.returns
returns c =
    let x = c.args.x.0 in
    let p = c.taken_apart-parts in
    let e = plus-text x p.result p.ensures c.if-parts.false in
    rw e c.put_decimal-2.ensures
