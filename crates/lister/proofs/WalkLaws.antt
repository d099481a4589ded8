-- What a whole run has put out is the listing of what it read, however the reads cut it.
use Prim.Native.Nat.{ℕ, ◌+◌, ◌-◌, ◌%◌, ◌^◌, ◌≤◌, ◌<◌}
use mathlib.Core.Path.{◌≡◌, refl, sym, ap, ◌∙◌, subst}
use mathlib.Core.Bool.{Bool, true, false, ◌||◌, cond}
use mathlib.Core.List.{List, [], ◌++◌, append-nil, append_assoc}
use native.Mathlib.Omega.{arith}
use native.Mathlib.Nat.{mod-add-mod}
use lib.Dec.{T}
use borrow.Table.Elements.{take-le}
use lib.ListN.{length, drop, length-drop, length-append}
use Rattle.listing.specs.Listing.{listing}
use Rattle.listing.specs.Streaming.{list_from}
use Rattle.listing.proofs.StreamLaws.{some-lists, rest, taken-inside}
use Rattle.listing.specs.Messages.{message_lines, closing}
use Rattle.listing.proofs.MessageLaws.{Parsed, listing-lines}
use Rattle.lister.specs.declared.Held.{Held}
use Rattle.streaming.specs.declared.source.Source.{Source}
use Rattle.streaming.specs.declared.sink.Sink.{Sink}
use Rattle.streaming.specs.Sources.{unread_yet}
use Rattle.streaming.specs.Sinks.{unwritten_yet}
use Rattle.streaming.proofs.SourceLaws.{piece-behind}
use Rattle.lister.specs.Holding.{Sound, octets_held, found_in, Turned, HeldRefilled, Stepped, most_frames}
use Rattle.lister.specs.Holding as holding
use Rattle.lister.proofs.TurnLaws.{not-ended, still_open}
use Rattle.lister.specs.Walking.{Walk, start, lists, reads, Walked, Ran}

-- ---- the turns are steps of a walk

-- nothing is held of that source, and nothing written to that sink
abbrev first : Source → Sink → Held
first s k = record { at = 0; source = s; unbroken = 0; sink = k; ended = false }

pub begun : (buf : List ℕ) (s : Source) (k : Sink) → s ≡ unread_yet → k ≡ unwritten_yet → Sound buf (first s k) × Walked buf (first s k) × ((first s k).sink.closed ≡ false)
begun buf s k e f =
    subst (λ (u : Source). Sound buf (first u k) × Walked buf (first u k) × (k.closed ≡ false)) (sym e)
    (subst (λ (j : Sink). Sound buf (first unread_yet j) × Walked buf (first unread_yet j) × (j.closed ≡ false)) (sym f)
    (record { order = omega arith; inside = omega arith }, record { input = []; text = []; walk = start buf }, refl))

pub turn-walks : {buf x y after : List ℕ} {h r : Held} → Walked buf h → h.ended ≡ false → Stepped buf x y after h r → Walked after r
turn-walks {r = r} w on (holding.lists t e) =
    subst (λ (b : List ℕ). Walked b r) (sym e) (record { input = w.input; text = _; walk = lists w.walk on t })
turn-walks w on (holding.reads m t go may f) = record { input = _; text = _; walk = reads (lists w.walk on t) go may f }

-- ---- what a walk has put out

never : {A : Type 0} {b : Bool} → b ≡ true → b ≡ false → A
never p q = absurd (let z : ◌≡◌ {A = Bool} true false = sym p ∙ q in let y : ◌≡◌ {A = ℕ} 0 1 = cc in omega arith)

-- the octets that were held, and the piece behind them
parts : {buf after : List ℕ} {h r : Held} → HeldRefilled buf after h r → octets_held after r ≡ octets_held buf h ++ drop (h.source.fill - h.at) (octets_held after r)
parts {buf} {after} {h} {r} f =
    rw f.start (piece-behind f.read)

listing-from : (s : List ℕ) → listing s ≡ list_from 0 s
unfolding listing list_from
listing-from s = refl

-- what is left to list: nothing after the last line
abbrev left : Bool → ℕ → List ℕ → List ℕ
left over n s = cond over [] (list_from n s)

-- a step that lists
module _ {buf x y : List ℕ} {h r : Held} (t : Turned buf x y h r) (input text later : List ℕ) where
  listed : (h.source.over ≡ true → later ≡ []) → listing (input ++ later) ≡ text ++ list_from h.unbroken (octets_held buf h ++ later)
      → listing (input ++ later) ≡ (text ++ (found_in (length x) buf h).text) ++ left (found_in (length x) buf h).ended r.unbroken (octets_held buf r ++ later)
  listed all before =
      before
      ∙ ap (λ (s : List ℕ). text ++ s) (some-lists (length x) h.source.over (octets_held buf h) later all h.unbroken)
      ∙ sym (append_assoc text (found_in (length x) buf h).text (rest (found_in (length x) buf h) (octets_held buf h) later))
      ∙ rw (t.unbroken, t.held)

-- a step that reads, also where the read failed
read-lists : {buf after : List ℕ} {h r : Held} → h.source.over ≡ false → HeldRefilled buf after h r → (input text later : List ℕ)
    → (let piece : List ℕ = drop (h.source.fill - h.at) (octets_held after r) in listing (input ++ (piece ++ later)) ≡ text ++ list_from h.unbroken (octets_held buf h ++ (piece ++ later)))
    → listing ((input ++ drop (h.source.fill - h.at) (octets_held after r)) ++ later) ≡ text ++ list_from r.unbroken (octets_held after r ++ later)
read-lists {buf} {after} {h} {r} may f input text later before =
    let piece : List ℕ = drop (h.source.fill - h.at) (octets_held after r) in
    rw append_assoc before
    ∙ ap (λ (s : List ℕ). text ++ list_from h.unbroken s) (sym (append_assoc (octets_held buf h) piece later) ∙ ap (λ (s : List ℕ). s ++ later) (sym (parts f)))
    ∙ ap (λ (n : ℕ). text ++ list_from n (octets_held after r ++ later)) (sym f.unbroken)

-- A WALK THAT GOES ON: the listing of all octets that were read and of whatever comes later is the text that was put out and the listing of what is left
pub walk-lists : {buf input text : List ℕ} {h : Held} → Walk buf h input text → h.ended ≡ false → (later : List ℕ) → (h.source.over ≡ true → later ≡ [])
    → listing (input ++ later) ≡ text ++ list_from h.unbroken (octets_held buf h ++ later)
walk-lists (start buf) on later all = listing-from later
walk-lists {buf = buf} {input = input} {h = r} (lists {x = x} {text = text} {h = h} w go t) on later all =
    listed t input text later (rw t.same_source at all) (walk-lists w go later (rw t.same_source at all)) ∙ rw (not-ended t on)
walk-lists (reads {buf = buf} {input = input} {text = text} {h = h} w go may f) on later all = read-lists may f input text later (walk-lists w go _ (λ e. never e may))

is-over : (ended closed over : Bool) → over ≡ (ended || closed) → over ≡ true → closed ≡ false → ended ≡ true
is-over true closed over o e c = refl
is-over false closed over o e c = absurd (subst T (sym (sym o ∙ e) ∙ c) tt)

-- A WALK THAT HAS ENDED, with an output that took all and no read that failed: the text is the listing of all octets that were read, and of the whole input, where some of it was not read
pub walk_ends : {buf : List ℕ} {h : Held} {input text : List ℕ} → Walk buf h input text → h.ended ≡ true → h.sink.closed ≡ false → h.source.failed ≡ false → (later : List ℕ) → (h.source.over ≡ true → later ≡ [])
    → text ≡ listing (input ++ later)
walk_ends (start buf) e w ok later all = never e refl
walk_ends {buf = buf} {h = r} {input = input} (lists {x = x} {text = text} {h = h} walk go t) e w ok later all =
    let over : (found_in (length x) buf h).ended ≡ true = is-over (found_in (length x) buf h).ended r.sink.closed r.ended t.ended e w in
    sym (listed t input text later (rw t.same_source at all) (walk-lists walk go later (rw t.same_source at all)) ∙ rw (over, append-nil))
walk_ends (reads walk go may f) e w ok later all = never e (f.ended ∙ ok)

-- ANY WALK, also one whose output was closed: what was put out is a beginning of the listing
pub record Begins (text whole : List ℕ) : Type 0 where
  pub rest : List ℕ
  pub parts : whole ≡ text ++ rest

pub walk_begins : {buf : List ℕ} {h : Held} {input text : List ℕ} → Walk buf h input text → (later : List ℕ) → (h.source.over ≡ true → later ≡ []) → Begins text (listing (input ++ later))
walk_begins (start buf) later all = record { rest = listing later; parts = refl }
walk_begins {buf = buf} {h = r} {input = input} (lists {x = x} {text = text} {h = h} walk go t) later all =
    record { rest = _; parts = listed t input text later (rw t.same_source at all) (walk-lists walk go later (rw t.same_source at all)) }
walk_begins (reads {input = input} {text = text} walk go may f) later all = record { rest = _; parts = read-lists may f input text later (walk-lists walk go _ (λ e. never e may)) }

-- no more frames are counted than octets are read
pub few-frames : {buf input text : List ℕ} {h : Held} → Walk buf h input text → h.unbroken + length (octets_held buf h) ≤ length input
few-frames (start buf) = omega arith
few-frames {buf = buf} {h = r} (lists {x = x} {h = h} walk go t) =
    omega (arith, few-frames walk, t.few, ap length t.held, length-drop (found_in (length x) buf h).taken (octets_held buf h), taken-inside (length x) h.source.over (octets_held buf h) h.unbroken)
few-frames {buf = after} {h = r} (reads {buf = buf} {input = input} {h = h} walk go may f) =
    let piece : List ℕ = drop (h.source.fill - h.at) (octets_held after r) in
    omega (arith, few-frames walk, f.unbroken, length-append input piece, ap length (parts f), length-append (octets_held buf h) piece)

-- nothing is read into a buffer with no room
no_room : {buf input text : List ℕ} {h : Held} → Walk buf h input text → length buf ≡ 0 → length input ≡ 0
no_room (start buf) e = refl
no_room (lists walk go t) e = no_room walk e
no_room {buf = after} {h = r} (reads {input = input} {h = h} walk go may f) e =
    let m : ℕ = h.source.fill - h.at in
    omega (
      arith,
      no_room walk (sym f.read.size ∙ e),
      length-append input (drop m (octets_held after r)),
      length-drop m (octets_held after r),
      take-le (r.source.fill - r.at) (drop r.at after),
      length-drop r.at after,
    )

-- ---- what a walk has written

walk-open : {buf input text : List ℕ} {h : Held} → Walk buf h input text → h.ended ≡ false → h.sink.closed ≡ false
walk-open (start buf) on = refl
walk-open (lists walk go t) on = still_open t on
walk-open {h = r} (reads walk go may f) on = rw f.same_sink (walk-open walk go)

-- all of the text, counted modulo 2^64
pub walk-wrote : {buf input text : List ℕ} {h : Held} → Walk buf h input text → h.sink.closed ≡ false → h.sink.written ≡ length text % 2 ^ 64
walk-wrote (start buf) is_open = refl
walk-wrote {buf = buf} (lists {x = x} {text = text} {h = h} walk go t) is_open =
    let new : List ℕ = (found_in (length x) buf h).text in
    t.wrote.done is_open ∙ ap (λ (n : ℕ). (n + length new) % 2 ^ 64) (walk-wrote walk (walk-open walk go)) ∙ mod-add-mod (length text) (2 ^ 64) (length new) ∙ ap (λ (n : ℕ). n % 2 ^ 64) (sym (length-append text new))
walk-wrote (reads walk go may f) is_open = rw f.same_sink (walk-wrote walk (rw f.same_sink at is_open))

-- ---- the whole run

module _ {buf : List ℕ} {r : Held} (ran : Ran buf r) where
  abbrev read_all : List ℕ
  read_all = ran.walked.input

  abbrev put_out : List ℕ
  put_out = ran.walked.text

  -- IT ENDS: a run stops at the end of its input, at a broken frame, where its output is closed or where a read failed; or it has read 2^62 octets
  pub lister-ends : length read_all < most_frames → r.ended ≡ true
  lister-ends few = by r.ended refl
    where
      by : (b : Bool) → r.ended ≡ b → r.ended ≡ true
      by true e = e
      by false e = absurd (omega (arith, few, few-frames ran.walked.walk, ran.stopped e))

  -- IT LISTS, unless a read failed: what it has put out is the listing of all octets that it read; where it left some unread, of those too
  pub lister-lists-all : length read_all < most_frames → r.sink.closed ≡ false → r.source.failed ≡ false → (later : List ℕ) → (r.source.over ≡ true → later ≡ []) → put_out ≡ listing (read_all ++ later)
  lister-lists-all few done ok later all = walk_ends ran.walked.walk (lister-ends few) done ok later all

  pub lister-lists : length read_all < most_frames → r.sink.closed ≡ false → r.source.failed ≡ false → put_out ≡ listing read_all
  lister-lists few done ok = lister-lists-all few done ok [] (λ _. refl) ∙ ap listing (append-nil read_all)

  -- with the line of each unbroken frame, and their number behind `end`
  pub lister-lines : length read_all < most_frames → r.sink.closed ≡ false → r.source.failed ≡ false → (p : Parsed read_all) → put_out ≡ message_lines 0 p.messages ++ closing p.cut (length p.messages)
  lister-lines few done ok p = lister-lists few done ok ∙ listing-lines p.input

  -- IT WRITES ALL OF THAT
  pub lister-writes : r.sink.closed ≡ false → r.sink.written ≡ length put_out % 2 ^ 64
  lister-writes is_open = walk-wrote ran.walked.walk is_open

  -- NO COUNT IS MADE UP: a run that can read nothing has counted nothing
  pub counts-read : length buf ≡ 0 → r.unbroken ≡ 0
  counts-read none = omega (arith, few-frames ran.walked.walk, no_room ran.walked.walk none)

  -- A CLOSED OUTPUT, A READ THAT FAILED: a beginning of the listing
  pub lister-begins : Begins put_out (listing read_all)
  lister-begins = subst (λ (s : List ℕ). Begins put_out (listing s)) (append-nil read_all) (walk_begins ran.walked.walk [] (λ _. refl))
