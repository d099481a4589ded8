-- The run is over; or a frame was listed; or more was read.
use mathlib.Core.Path.{refl, sym, subst, ◌∙◌}
use lib.Dec.{T}
use Rattle.lister.specs.Holding.{lists, reads}
use Rattle.lister.proofs.TurnLaws.{listed-nearer, may-read, read-nearer}
use Rattle.lister.proofs.turn.Goals as goal

pub returns-then-listed : goal.returns-then-listed
returns-then-listed c = record {
  stepped = lists c.list_held-listed.ensures refl;
  sound = c.list_held-listed.ensures.sound;
  nearer = λ on. absurd (subst T (sym c.if-listed.true ∙ on) tt);
}

pub returns-then-listed-held : goal.returns-then-listed-held
returns-then-listed-held c = record {
  stepped = lists c.list_held-listed.ensures refl;
  sound = c.list_held-listed.ensures.sound;
  nearer = λ _. listed-nearer c.list_held-listed.ensures c.requires.unbroken_lt_most_frames c.if-listed-held.true;
}

pub returns : goal.returns
returns c =
    let t = c.list_held-listed.ensures in
    let on = c.if-listed.false in
    let same = c.if-listed-held.false in
    record {
      stepped = reads _ t on (may-read t c.requires.longest_step_in_bounds on same) c.refill.ensures;
      sound = c.refill.ensures.sound;
      nearer = λ _. read-nearer t c.requires.longest_step_in_bounds c.requires.sound on same c.refill.ensures;
    }
