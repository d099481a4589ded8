-- At most sixteen digits, and eight after them.
use Rattle.std.proofs.Common.{arith}
use Rattle.text.proofs.OutputLaws.{then, decimal-eights, eights-length}
use Rattle.text.proofs.put_decimal.Goals as goal

pub put_upper-next-requires : goal.put_upper-next-requires
put_upper-next-requires c = record { n_bound = omega arith; n_in_bounds = omega (arith, eights-length {n = c.args.n} (omega arith)) }

pub put_eight-requires : goal.put_eight-requires
put_eight-requires c = record { n_bound = omega arith; at_in_bounds = omega (arith, eights-length {n = c.args.n} (omega arith), c.put_upper-next.ensures.place, c.put_upper-next.auto.out) }

pub returns : goal.returns
returns c = rw (decimal-eights {n = c.args.n} (omega arith)) (then c.put_upper-next.ensures c.put_eight.ensures)
