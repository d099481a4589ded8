-- One, two, three or four digits.
use Rattle.std.proofs.Common.{length, ap, arith}
use Rattle.text.proofs.OutputLaws.{then, decimal-small, decimal-pair, decimal-three, decimal-four}
use Rattle.text.proofs.put_short.Goals as goal

pub put_byte-requires : goal.put_byte-requires
put_byte-requires c = omega (arith, ap length (decimal-small {n = c.args.n} (omega arith)), c.requires.n_in_bounds)

pub returns-then-n-lt10 : goal.returns-then-n-lt10
returns-then-n-lt10 c = rw (decimal-small {n = c.args.n} (omega arith)) c.put_byte.ensures

pub put_pair-requires : goal.put_pair-requires
put_pair-requires c = record { n_bound = omega arith; at_in_bounds = omega (arith, ap length (decimal-pair {n = c.args.n} (omega arith) (omega arith)), c.requires.n_in_bounds) }

pub returns-then-n-lt100 : goal.returns-then-n-lt100
returns-then-n-lt100 c = rw (decimal-pair {n = c.args.n} (omega arith) (omega arith)) c.put_pair.ensures

pub put_byte-next-requires : goal.put_byte-next-requires
put_byte-next-requires c = omega (arith, ap length (decimal-three {n = c.args.n} (omega arith) (omega arith)), c.requires.n_in_bounds)

pub put_pair-requires-then-n-lt1000 : goal.put_pair-requires-then-n-lt1000
put_pair-requires-then-n-lt1000 c = record { n_bound = omega arith; at_in_bounds = omega (arith, ap length (decimal-three {n = c.args.n} (omega arith) (omega arith)), c.requires.n_in_bounds, c.put_byte-next.ensures.place, c.put_byte-next.auto.out) }

pub returns-then-n-lt1000 : goal.returns-then-n-lt1000
returns-then-n-lt1000 c = rw (decimal-three {n = c.args.n} (omega arith) (omega arith)) (then c.put_byte-next.ensures c.put_pair-then-n-lt1000.ensures)

pub put_four-requires : goal.put_four-requires
put_four-requires c = record { n_bound = c.requires.n_bound; at_in_bounds = omega (arith, ap length (decimal-four {n = c.args.n} (omega arith) c.requires.n_bound), c.requires.n_in_bounds) }

pub returns : goal.returns
returns c = rw (decimal-four {n = c.args.n} (omega arith) c.requires.n_bound) c.put_four.ensures
