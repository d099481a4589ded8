-- The octets before the one in turn are put.
use Rattle.std.proofs.Common.{◌≡◌, ◌+◌, ◌*◌, take}
use Rattle.text.specs.Text.{Puts, octets_text}
use Rattle.text.proofs.put_octets.Given as goal

abbrev pub invariant-loop-octet : goal.invariant-loop-octet
invariant-loop-octet l = (l.next ≡ l.at + 3 * l.octet-index) × Puts l.initial.out l.at (octets_text (take l.octet-index l.src)) l.out l.next
