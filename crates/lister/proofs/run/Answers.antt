-- What is held is what a walk comes to that has not ended; each turn goes on with the walk, and comes nearer to the end.
use mathlib.Core.Path.{sym, ◌∙◌, subst}
use lib.Dec.{T}
use Rattle.lister.proofs.TurnLaws.{stays_open}
use Rattle.lister.proofs.WalkLaws.{begun, turn-walks}
use borrow.Author.Rules.{rules}
use Rattle.lister.proofs.run.Goals as goal

pub loop-held-init : goal.loop-held-init
loop-held-init c =
    let b = begun _ c.unread-source.result c.unwritten-sink.result c.unread-source.ensures c.unwritten-sink.ensures in
    (b.0, b.1, search rules, b.2, search rules, search rules, search rules)

pub returns-then-held : goal.returns-then-held
returns-then-held c = record {
  walked = turn-walks c.loop-held.invariant.1 c.loop-held.invariant.2 c.turn-held.ensures.stepped;
  stopped = λ on. absurd (subst T (sym c.if-held.true ∙ on) tt);
}

pub loop-held-smaller : goal.loop-held-smaller
loop-held-smaller c = c.turn-held.ensures.nearer c.if-held.false

pub loop-held-preserved : goal.loop-held-preserved
loop-held-preserved c = (
  search rules,
  turn-walks c.loop-held.invariant.1 c.loop-held.invariant.2 c.turn-held.ensures.stepped,
  c.if-held.false,
  stays_open c.turn-held.ensures.stepped c.if-held.false,
  search rules,
  search rules,
  search rules,
)

pub returns : goal.returns
returns c = record { walked = c.loop-held.invariant.1; stopped = λ _. search rules }
