-- Fewer than four octets by their number; else by the head, and by whether the message is all there.
use mathlib.Core.Path.{sym, ◌∙◌}
use lib.ListN.{get_or}
use borrow.Author.Tests.{le-leb, lt-leb, not-true, not-false}
use Rattle.frames.proofs.FrameLaws.{short-more, short-end, short-broken, with-head, sound-head}
use mathlib.Core.Bool.{not}
use mathlib.Core.Path.{ap}
use Rattle.frames.proofs.next_frame.Goals as goal

pub returns-then-not-last : goal.returns-then-not-last
returns-then-not-last c = rw (not-true c.args.last (ap not c.if-not-last.true)) (sym (short-more _ c.if-s-lt4.true))

pub returns-then-s-eq0 : goal.returns-then-s-eq0
returns-then-s-eq0 c = rw (not-false c.args.last (ap not c.if-not-last.false)) (sym (short-end _ c.if-s-eq0.true))

pub returns-then-s-lt4 : goal.returns-then-s-lt4
returns-then-s-lt4 c = rw (not-false c.args.last (ap not c.if-not-last.false)) (sym (short-broken _ c.if-s-lt4.true c.if-s-eq0.false))

pub returns-then-not-head_sound : goal.returns-then-not-head_sound
returns-then-not-head_sound c =
    let given = c.args in
    rw (with-head given.last given.s.now c.if-s-lt4.false, ← c.wide.ensures.0, ← c.wide-2.ensures.0)
    (simp (sym c.head_sound.ensures ∙ not-true _ (ap not c.if-not-head_sound.true)))

pub overflow_sub-size : goal.overflow_sub-size
overflow_sub-size c =
    let s = c.args.s.now in
    (sound-head _ (get_or s 2 0) (get_or s 3 0) (sym c.head_sound.ensures ∙ not-false _ (ap not c.if-not-head_sound.false))).low

pub returns-then-size-s : goal.returns-then-size-s
returns-then-size-s c =
    let given = c.args in
    rw (with-head given.last given.s.now c.if-s-lt4.false, ← c.wide.ensures.0, ← c.wide-2.ensures.0)
    (simp (sym c.head_sound.ensures ∙ not-false _ (ap not c.if-not-head_sound.false), le-leb _ _ c.if-size-s.true))

pub returns-then-last : goal.returns-then-last
returns-then-last c =
    let given = c.args in
    rw (with-head given.last given.s.now c.if-s-lt4.false, ← c.wide.ensures.0, ← c.wide-2.ensures.0)
    (simp (sym c.head_sound.ensures ∙ not-false _ (ap not c.if-not-head_sound.false), lt-leb _ _ c.if-size-s.false, c.if-last.true))

pub returns-else-last : goal.returns-else-last
returns-else-last c =
    let given = c.args in
    rw (with-head given.last given.s.now c.if-s-lt4.false, ← c.wide.ensures.0, ← c.wide-2.ensures.0)
    (simp (sym c.head_sound.ensures ∙ not-false _ (ap not c.if-not-head_sound.false), lt-leb _ _ c.if-size-s.false, c.if-last.false))
