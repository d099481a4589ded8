-- A digit or a letter.
use Rattle.std.proofs.Common.{arith, le-ltb, lt-ltb}
use Rattle.text.proofs.digit_of.Goals as goal

pub returns-then-value-lt10 : goal.returns-then-value-lt10
returns-then-value-lt10 c = rw (lt-ltb c.args.value 10 (omega arith))

pub returns : goal.returns
returns c = rw (le-ltb c.args.value 10 (omega arith))
