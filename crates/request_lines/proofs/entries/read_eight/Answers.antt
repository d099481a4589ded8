-- Each field ends where the next space stands, and the eighth where the line ends.
use Rattle.std.proofs.Common.{◌≡◌, arith}
use Rattle.request_lines.proofs.PartedLaws.{parted-more, too_few, too_many, parted-last}
use Rattle.request_lines.proofs.entries.read_eight.Goals as goal

pub returns-then-end-line : goal.returns-then-end-line
returns-then-end-line c = too_few c.loop-number.invariant c.entry_at-entry.ensures (omega arith) c.loop-number-test.true c.if-end-line.true

pub loop-number-preserved : goal.loop-number-preserved
loop-number-preserved c = parted-more c.loop-number.invariant c.entry_at-entry.ensures (omega arith) (omega (arith, c.entry_at-entry.ensures.end.inside))

pub returns-then-end-line-2 : goal.returns-then-end-line-2
returns-then-end-line-2 c = let e : c.loop-number.number ≡ 7 = omega arith in too_many (rw e at c.loop-number.invariant) c.entry_at-last.ensures (omega arith)

pub returns : goal.returns
returns c = let e : c.loop-number.number ≡ 7 = omega arith in parted-last (rw e at c.loop-number.invariant) c.entry_at-last.ensures (omega arith)
