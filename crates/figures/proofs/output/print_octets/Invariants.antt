-- Each turn prints one octet.
use Rattle.figures.specs.Counting.{Printed}
use Rattle.figures.proofs.output.print_octets.Given as goal

abbrev pub invariant-loop-octet : goal.invariant-loop-octet
invariant-loop-octet l = Printed l.initial.t l.t
