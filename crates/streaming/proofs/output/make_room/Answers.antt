-- The answers are written, or there is room.
use Rattle.std.proofs.Common.{refl, rules}
use Rattle.streaming.specs.Outputs.{same, written}
use Rattle.streaming.proofs.output.make_room.Goals as goal

pub returns-then-output-longest : goal.returns-then-output-longest
returns-then-output-longest c = record {
  room = search rules;
  same_count = c.written.ensures.same_count;
  kept = written c.written.ensures;
}

pub returns : goal.returns
returns c = record { room = search rules; same_count = refl; kept = same refl }
