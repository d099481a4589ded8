-- The loop has passed a row of digits, and grown is one digit more.
use Rattle.std.proofs.Common.{arith}
use Rattle.text.proofs.NumeralLaws.{value, digit, row_more}
use Rattle.text.proofs.numeral.digits_from.Goals as goal

pub loop-i-preserved : goal.loop-i-preserved
loop-i-preserved c =
    let e = c.wrapping_sub_u64-digit.ensures.value in
    (omega arith, rw (c.grown-size.ensures, ← value e (omega arith)) (row_more c.loop-i.invariant.1 (omega arith) (digit e (omega arith))))
