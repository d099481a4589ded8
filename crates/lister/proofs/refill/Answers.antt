-- What was read is held, from the start of the buffer on.
use mathlib.Core.Path.{refl}
use borrow.Author.Rules.{rules}
use Rattle.lister.proofs.refill.Goals as goal

pub returns : goal.returns
returns c = record {
  sound = record { order = search rules; inside = c.read_more-more.ensures.inside };
  read = c.read_more-more.ensures;
  start = refl;
  unbroken = refl;
  same_sink = refl;
  ended = c.is_failed-ended.ensures;
}
