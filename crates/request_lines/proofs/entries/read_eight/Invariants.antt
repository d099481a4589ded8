-- Each field ends where the next space stands, and the eighth where the line ends.
use Rattle.request_lines.proofs.PartedLaws.{Parted}
use Rattle.request_lines.proofs.entries.read_eight.Given as goal

abbrev pub invariant-loop-number : goal.invariant-loop-number
invariant-loop-number l = Parted l.line l.held l.number l.from
