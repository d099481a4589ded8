-- What the steps of a turn make of what is held, and that each turn comes nearer to the end.
use Prim.Native.Nat.{ℕ, zero, suc, ◌+◌, ◌-◌, ◌*◌, ◌≤◌, ◌<◌}
use mathlib.Core.Path.{◌≡◌, refl, sym, ap, ◌∙◌, subst}
use mathlib.Core.Bool.{Bool, true, false, ◌||◌}
use mathlib.Core.List.{List, [], ◌∷◌}
use native.Mathlib.Omega.{arith}
use lib.ListN.{length, take, drop, length-drop}
use lib.Seq.{drop-drop, length-take-le, take-nil}
use lib.Dec.{T}
use Rattle.listing.specs.Steps.{longest_step}
use Rattle.listing.specs.Streaming.{Lists}
use Rattle.listing.specs.declared.Listed.{Listed}
use Rattle.listing.proofs.StreamLaws.{stuck, counted, written-text}
use Rattle.lister.specs.declared.Held.{Held}
use Rattle.streaming.specs.declared.source.Source.{Source}
use Rattle.streaming.specs.declared.sink.Sink.{Sink}
use Rattle.streaming.specs.Sinks.{Wrote}
use Rattle.lister.specs.Holding.{octets_held, found_in, Sound, Turned, HeldRefilled, Stepped, lists, reads, most_frames, may_read, turns_left}

abbrev over-of : Source → Bool
over-of s = s.over

abbrev fill-of : Source → ℕ
fill-of s = s.fill

drop-take : (n m : ℕ) (l : List ℕ) → drop n (take m l) ≡ take (m - n) (drop n l)
drop-take zero m l = let e : m - 0 ≡ m = omega arith in rw e
drop-take (suc n) zero l = let e : 0 - suc n ≡ 0 = omega arith in rw e
drop-take (suc n) (suc m) [] = sym (take-nil (suc m - suc n))
drop-take (suc n) (suc m) (x ∷ l) = let e : suc m - suc n ≡ m - n = omega arith in rw e (drop-take n m l)

-- ---- the steps

-- a run that goes on has not ended, and its output is open
go_on : (ended closed over : Bool) → over ≡ (ended || closed) → over ≡ false → (ended ≡ false) × (closed ≡ false)
go_on true closed over o f = absurd (subst T (sym o ∙ f) tt)
go_on false closed over o f = (refl, sym o ∙ f)

pub not-ended : {buf x y : List ℕ} {h r : Held} → Turned buf x y h r → r.ended ≡ false → (found_in (length x) buf h).ended ≡ false
not-ended {buf} {x} {y} {h} {r} t f = (go_on (found_in (length x) buf h).ended r.sink.closed r.ended t.ended f).0

pub still_open : {buf x y : List ℕ} {h r : Held} → Turned buf x y h r → r.ended ≡ false → r.sink.closed ≡ false
still_open {buf} {x} {y} {h} {r} t f = (go_on (found_in (length x) buf h).ended r.sink.closed r.ended t.ended f).1

pub stays_open : {buf x y after : List ℕ} {h r : Held} → Stepped buf x y after h r → r.ended ≡ false → r.sink.closed ≡ false
stays_open (lists t e) on = still_open t on
stays_open (reads m t go may f) on = rw f.same_sink (still_open t go)

pub turned : {x y text : List ℕ} (buf : List ℕ) (h : Held) (fill : ℕ) (last : Bool) (r : Listed) (over : Bool) (sink : Sink) (shut : Bool) → fill ≡ h.source.fill → last ≡ h.source.over
    → over ≡ (r.ended || shut) → shut ≡ sink.closed → Sound buf h → Lists last h.unbroken (take (fill - h.at) (drop h.at buf)) x y r
    → text ≡ (found_in (length x) buf h).text → Wrote text h.sink sink
    → Turned buf x y h (record { at = h.at + r.taken; source = h.source; unbroken = r.unbroken; sink = sink; ended = over })
turned {x} {y} {text} buf h fill last r over sink shut f v either same o all put wrote =
    let l : Lists h.source.over h.unbroken (octets_held buf h) x y r = rw (f, v) at all in
    let d = length-drop h.at buf in
    let n = length-take-le (h.source.fill - h.at) (drop h.at buf) (omega (arith, o.order, o.inside)) in
    let e : h.source.fill - h.at - r.taken ≡ h.source.fill - (h.at + r.taken) = omega arith in
    record {
      sound = record { order = omega (arith, l.inside, o.order); inside = o.inside };
      place = ap (λ (t : ℕ). h.at + t) l.taken;
      held = rw (← l.taken, drop-take r.taken (h.source.fill - h.at) (drop h.at buf), drop-drop r.taken h.at buf, e);
      unbroken = l.unbroken;
      same_source = refl;
      wrote = rw put at wrote;
      ended = either ∙ ap (λ (e : Bool). r.ended || e) same ∙ ap (λ (e : Bool). e || sink.closed) l.ended;
      few = rw (← l.taken) l.count;
      content = l.content;
    }

-- the text that was found is what stands at the buffer's start
pub text-found : {x y : List ℕ} (buf : List ℕ) (h : Held) (fill : ℕ) (last : Bool) (r : Listed) → fill ≡ h.source.fill → last ≡ h.source.over
    → Lists last h.unbroken (take (fill - h.at) (drop h.at buf)) x y r → take r.written y ≡ (found_in (length x) buf h).text
text-found {x} {y} buf h fill last r f v all =
    let l : Lists h.source.over h.unbroken (octets_held buf h) x y r = rw (f, v) at all in
    (written-text l).0

-- for a buffer that is as long
pub text-put : {x y : List ℕ} (buf : List ℕ) (h : Held) (fill : ℕ) (last : Bool) (r : Listed) → fill ≡ h.source.fill → last ≡ h.source.over
    → Lists last h.unbroken (take (fill - h.at) (drop h.at buf)) x y r → length y ≡ length x → take r.written y ≡ (found_in (length y) buf h).text
text-put buf h fill last r f v all e = rw e (text-found buf h fill last r f v all)

-- ---- nearer to the end

-- a frame more is listed; more octets are held; nothing is left to read
fewer-frames : (M u v a b p q : ℕ) → u < M → u < v → q ≡ p → 200 * (M - v) + q + (95 - a) < 200 * (M - u) + p + (95 - b)
fewer-frames M u v a b p q h i e = omega arith

fewer_reads : (M u v a b p q : ℕ) → u ≤ v → b < 95 → b < a → p ≡ 100 → q ≡ 100 → 200 * (M - v) + q + (95 - a) < 200 * (M - u) + p + (95 - b)
fewer_reads M u v a b p q h i j e f = omega arith

no_reads : (M u v a b p q : ℕ) → u ≤ v → b < 95 → p ≡ 100 → q ≡ 0 → 200 * (M - v) + q + (95 - a) < 200 * (M - u) + p + (95 - b)
no_reads M u v a b p q h i e f = omega arith

module _ {buf x y : List ℕ} {h m : Held} (t : Turned buf x y h m) where
  -- a turn that takes octets lists a frame
  pub listed-nearer : h.unbroken < most_frames → (m.at ≡ h.at → ⊥) → turns_left m < turns_left h
  listed-nearer few moved =
      let c = (counted (length x) h.source.over (octets_held buf h) h.unbroken).1 (by (found_in (length x) buf h).taken refl) in
      fewer-frames most_frames h.unbroken m.unbroken (m.source.fill - m.at) (h.source.fill - h.at) (may_read h.source.over) (may_read m.source.over)
      few (omega (arith, t.unbroken)) (ap may_read (ap over-of t.same_source))
    where
      by : (n : ℕ) → (found_in (length x) buf h).taken ≡ n → 0 < (found_in (length x) buf h).taken
      by zero e = absurd (moved (t.place ∙ omega arith))
      by (suc n) e = omega arith

  -- one that takes none and does not end the run may read more
  pub may-read : longest_step ≤ length x → m.ended ≡ false → m.at ≡ h.at → m.source.over ≡ false
  may-read room on same = ap over-of t.same_source ∙ (stuck (length x) h.source.over (octets_held buf h) h.unbroken room (omega (arith, t.place)) (not-ended t on)).0

  -- one that takes none holds fewer than 95 octets: it reads more, or finds that nothing is left to read
  pub read-nearer : {after : List ℕ} {r : Held} → longest_step ≤ length x → Sound buf h → m.ended ≡ false → m.at ≡ h.at → HeldRefilled buf after m r → turns_left r < turns_left h
  read-nearer {after} {r} room o on same f =
      let w = stuck (length x) h.source.over (octets_held buf h) h.unbroken room (omega (arith, t.place)) (not-ended t on) in
      let c = (counted (length x) h.source.over (octets_held buf h) h.unbroken).0 in
      let d = length-drop h.at buf in
      let n = length-take-le (h.source.fill - h.at) (drop h.at buf) (omega (arith, o.order, o.inside)) in
      by r.source.over refl (omega (arith, w.1)) (ap may_read w.0) (omega (arith, t.unbroken, f.unbroken))
    where
      by : (b : Bool) → r.source.over ≡ b → h.source.fill - h.at < 95 → may_read h.source.over ≡ 100 → h.unbroken ≤ r.unbroken → turns_left r < turns_left h
      by true e few before count =
          no_reads most_frames h.unbroken r.unbroken (r.source.fill - r.at) (h.source.fill - h.at) (may_read h.source.over) (may_read r.source.over) count few before (ap may_read e)
      by false e few before count =
          fewer_reads most_frames h.unbroken r.unbroken (r.source.fill - r.at) (h.source.fill - h.at) (may_read h.source.over) (may_read r.source.over) count few
          (omega (arith, f.read.grown e, f.start, ap fill-of t.same_source)) before (ap may_read e)
