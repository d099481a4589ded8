-- The loop has passed a row of digits, and grown is one digit more.
use Rattle.std.proofs.Common.{◌-◌, ◌≤◌, length}
use Rattle.text.specs.Numerals.{DigitRow}
use Rattle.text.proofs.numeral.digits_from.Given as goal

abbrev pub invariant-loop-i : goal.invariant-loop-i
invariant-loop-i l = (l.i ≤ length l.s) × DigitRow l.s l.from l.size l.i

abbrev pub decreases-loop-i : goal.decreases-loop-i
decreases-loop-i l = length l.s - l.i
