-- At most four digits, and four after them.
use Rattle.std.proofs.Common.{arith}
use Rattle.text.proofs.OutputLaws.{then, decimal-fours, fours-length}
use Rattle.text.proofs.put_medium.Goals as goal

pub put_short-next-requires : goal.put_short-next-requires
put_short-next-requires c = record { n_bound = omega arith; n_in_bounds = omega (arith, fours-length {n = c.args.n} (omega arith)) }

pub put_four-requires : goal.put_four-requires
put_four-requires c = record { n_bound = omega arith; at_in_bounds = omega (arith, fours-length {n = c.args.n} (omega arith), c.put_short-next.ensures.place, c.put_short-next.auto.out) }

pub returns : goal.returns
returns c = rw (decimal-fours {n = c.args.n} (omega arith)) (then c.put_short-next.ensures c.put_four.ensures)
