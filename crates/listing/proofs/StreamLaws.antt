-- What a call lists, and what it leaves to list; a call that takes nothing waits for more.
use Prim.Native.Nat.{ℕ, zero, suc, ◌+◌, ◌≤◌, ◌<◌}
use mathlib.Core.Path.{◌≡◌, refl, sym, ap, ◌∙◌, subst}
use mathlib.Core.Bool.{Bool, true, false, cond}
use mathlib.Core.List.{List, [], ◌++◌, append-nil, append_assoc}
use mathlib.Core.Logic.{⊎_elim}
use native.Mathlib.Omega.{arith}
use native.Mathlib.Nat.{le_refl}
use lib.ListN.{length, take, drop, length-drop}
use lib.Seq.{take-append-le, drop-append-le, drop-drop}
use borrow.Author.Tests.{lt-ltb, le-ltb}
use Rattle.text.specs.Text.{Puts}
use Rattle.text.proofs.OutputLaws.{split, text-so-far, text-after}
use Rattle.frames.specs.Frames.{frame_of, octets_of}
use Rattle.frames.specs.declared.Frame.{Frame}
use Rattle.frames.specs.declared.Frame.TheVariants.{Whole, Broken, More, End}
use Rattle.frames.proofs.FrameLaws.{frame-there, frame-stays, frame-waits}
use Rattle.listing.specs.Steps.{text_of, longest_step}
use Rattle.listing.specs.Listing.{on_whole, list_in}
use Rattle.listing.specs.Streaming.{list_from, Found, found, on_frame, ends_run, some_in, some_of, Lists}
use Rattle.listing.specs.declared.Listed.{Listed}

-- ---- a frame, and then the rest

on_same : (F : Frame) (g h : ℕ → List ℕ) → ((k l : ℕ) → F ≡ Whole k l → g l ≡ h l) → on_whole F g ≡ on_whole F h
on_same (Whole k l) g h e = e k l refl
on_same Broken g h e = refl
on_same More g h e = refl
on_same End g h e = refl

pub whole-there : (last : Bool) (s : List ℕ) (k l : ℕ) → frame_of last s ≡ Whole k l → 4 + l ≤ length s
whole-there last s k l e = subst (λ (F : Frame). octets_of F ≤ length s) e (frame-there last s)

-- any count of frames that is above the length will do
list-room : (i j n : ℕ) (s : List ℕ) → length s < i → length s < j → list_in i n s ≡ list_in j n s
unfolding list_in
list-room zero j n s a b = absurd (omega arith)
list-room (suc i) zero n s a b = absurd (omega arith)
list-room (suc i) (suc j) n s a b =
    ap (λ (t : List ℕ). text_of (frame_of true s) n s ++ t)
    (on_same (frame_of true s) _ _ λ k l e.
    let f = whole-there true s k l e in
    let d = length-drop (4 + l) s in
    list-room i j (n + 1) (drop (4 + l) s) (omega arith) (omega arith))

pub list-step : (n : ℕ) (s : List ℕ) → list_from n s ≡ text_of (frame_of true s) n s ++ on_whole (frame_of true s) (λ l. list_from (n + 1) (drop (4 + l) s))
unfolding list_from list_in
list-step n s =
    ap (λ (t : List ℕ). text_of (frame_of true s) n s ++ t)
    (on_same (frame_of true s) _ _ λ k l e.
    let f = whole-there true s k l e in
    let d = length-drop (4 + l) s in
    list-room (length s) (suc (length (drop (4 + l) s))) (n + 1) (drop (4 + l) s) (omega arith) (omega arith))

-- ---- a call

-- what is listed for a frame does not hang on what follows it
text-stays : (F : Frame) (n : ℕ) (s later : List ℕ) → octets_of F ≤ length s → text_of F n (s ++ later) ≡ text_of F n s
unfolding text_of
text-stays (Whole k l) n s later g =
    let d = length-drop 4 s in
    rw (drop-append-le 4 s later (omega arith), take-append-le l (drop 4 s) later (omega arith))
text-stays Broken n s later g = refl
text-stays More n s later g = refl
text-stays End n s later g = refl

-- what is left to list after a call
abbrev pub rest : Found → List ℕ → List ℕ → List ℕ
rest r s later = cond r.ended [] (list_from r.unbroken (drop r.taken s ++ later))

module _ (size : ℕ) (last : Bool) (s later : List ℕ) (l : last ≡ true → later ≡ []) where
  -- the text of a frame that is found, and what follows it
  found-text : (n at : ℕ) (F : Frame) → frame_of last (drop at s) ≡ F → (F ≡ More → ⊥)
      → list_from n (drop at s ++ later) ≡ text_of F n (drop at s) ++ on_whole F (λ k. list_from (n + 1) (drop (4 + k) (drop at s ++ later)))
  found-text n at F e m =
      let q : frame_of true (drop at s ++ later) ≡ F = frame-stays last (drop at s) later l (λ p. m (sym e ∙ p)) ∙ e in
      let g : octets_of F ≤ length (drop at s) = subst (λ (G : Frame). octets_of G ≤ length (drop at s)) e (frame-there last (drop at s)) in
      list-step n (drop at s ++ later) ∙ rw (q, text-stays F n (drop at s) later g)

  -- the text so far and the rest of the input come to what the answer r and the rest after it come to
  abbrev Sound : Found → List ℕ → ℕ → ℕ → Type 0
  Sound r t n at = t ++ list_from n (drop at s ++ later) ≡ r.text ++ rest r s later

  by-frame : (n at : ℕ) (t : List ℕ) (go : ℕ → Found) (F : Frame) → frame_of last (drop at s) ≡ F
      → ((k l : ℕ) → F ≡ Whole k l → Sound (go l) (t ++ text_of F n (drop at s)) (n + 1) (at + (4 + l)))
      → Sound (on_frame F go (found (ends_run F) (t ++ text_of F n (drop at s)) at n)) t n at
  unfolding text_of
  by-frame n at t go (Whole k l) e ih =
      let x : List ℕ = text_of (Whole k l) n (drop at s) in
      let d : drop (4 + l) (drop at s ++ later) ≡ drop (at + (4 + l)) s ++ later =
      drop-append-le (4 + l) (drop at s) later (whole-there last (drop at s) k l e) ∙ ap (λ (r : List ℕ). r ++ later) (drop-drop (4 + l) at s)
      in
      ap (λ (r : List ℕ). t ++ r) (found-text n at (Whole k l) e (λ p. let z : ◌≡◌ {A = ℕ} 0 1 = cc in omega arith))
      ∙ sym (append_assoc t x (list_from (n + 1) (drop (4 + l) (drop at s ++ later))))
      ∙ ap (λ (r : List ℕ). (t ++ x) ++ list_from (n + 1) r) d
      ∙ ih k l refl
  by-frame n at t go Broken e ih = ap (λ (x : List ℕ). t ++ x) (found-text n at Broken e (λ p. let z : ◌≡◌ {A = ℕ} 0 1 = cc in omega arith)) ∙ sym (append_assoc t _ [])
  by-frame n at t go More e ih = rw append-nil
  by-frame n at t go End e ih = ap (λ (x : List ℕ). t ++ x) (found-text n at End e (λ p. let z : ◌≡◌ {A = ℕ} 0 1 = cc in omega arith)) ∙ sym (append_assoc t _ [])

  some-sound : (f n at : ℕ) (t : List ℕ) → Sound (some_in f size last s n at t) t n at
  unfolding some_in
  some-sound zero n at t = refl
  some-sound (suc f) n at t =
      ⊎_elim
      (λ (b : size < length t + longest_step). simp (lt-ltb _ _ b))
      (λ (b : length t + longest_step ≤ size).
      simp (le-ltb _ _ b)
      (by-frame n at t (λ l. some_in f size last s (n + 1) (at + (4 + l)) (t ++ text_of (frame_of last (drop at s)) n (drop at s))) (frame_of last (drop at s)) refl
      (λ k l e. some-sound f (n + 1) (at + (4 + l)) (t ++ text_of (frame_of last (drop at s)) n (drop at s)))))
      (split size (length t + longest_step))

  -- A CALL: the listing of what it is given, with whatever comes later, is its text and the listing of what it leaves
  pub some-lists : (n : ℕ) → list_from n (s ++ later) ≡ (some_of size last s n).text ++ rest (some_of size last s n) s later
  unfolding some_of
  some-lists n = some-sound (suc (length s)) n 0 []

-- ---- one answer and one content

pub lists-one : {last : Bool} {n : ℕ} {s x y z : List ℕ} {r q : Listed} → Lists last n s x y r → Lists last n s x z q → (r ≡ q) × (y ≡ z)
lists-one a b = (
  λ i. record {
    taken = (a.taken ∙ sym b.taken) i;
    written = (a.written ∙ sym b.written) i;
    unbroken = (a.unbroken ∙ sym b.unbroken) i;
    ended = (a.ended ∙ sym b.ended) i;
  },
  a.content ∙ sym b.content,
)

-- the octets that are said to be written are the text, and the others are as they were
pub written-text : {last : Bool} {n : ℕ} {s x y : List ℕ} {r : Listed} → Lists last n s x y r
    → (take r.written y ≡ (some_of (length x) last s n).text) × (drop r.written y ≡ drop r.written x)
written-text {last} {n} {s} {x} {y} {r} a =
    let p : Puts x 0 (some_of (length x) last s n).text y r.written = record { content = a.content; place = a.written ∙ omega arith } in
    (text-so-far p a.room, text-after p a.room)

-- ---- progress

-- a call takes octets from its place on, of those that there are
taken-from : (f size : ℕ) (last : Bool) (s : List ℕ) (n at : ℕ) (t : List ℕ) → at ≤ length s
    → (at ≤ (some_in f size last s n at t).taken) × ((some_in f size last s n at t).taken ≤ length s)
unfolding some_in
taken-from zero size last s n at t h = (le_refl at, h)
taken-from (suc f) size last s n at t h =
    ⊎_elim
    (λ (b : size < length t + longest_step). simp (lt-ltb _ _ b) (le_refl at, h))
    (λ (b : length t + longest_step ≤ size).
    simp (le-ltb _ _ b)
    (on-taken (frame_of last (drop at s)) refl (λ l. some_in f size last s (n + 1) (at + (4 + l)) (t ++ text_of (frame_of last (drop at s)) n (drop at s)))
    (λ l i. taken-from f size last s (n + 1) (at + (4 + l)) (t ++ text_of (frame_of last (drop at s)) n (drop at s)) i)))
    (split size (length t + longest_step))
  where
    on-taken : (F : Frame) → frame_of last (drop at s) ≡ F → (go : ℕ → Found)
        → ((l : ℕ) → at + (4 + l) ≤ length s → (at + (4 + l) ≤ (go l).taken) × ((go l).taken ≤ length s))
        → (at ≤ (on_frame F go (found (ends_run F) (t ++ text_of F n (drop at s)) at n)).taken)
        × ((on_frame F go (found (ends_run F) (t ++ text_of F n (drop at s)) at n)).taken ≤ length s)
    on-taken (Whole k l) e go later =
        let r = later l (omega (arith, whole-there last (drop at s) k l e, length-drop at s)) in
        (omega (arith, r.0), r.1)
    on-taken Broken e go later = (le_refl at, h)
    on-taken More e go later = (le_refl at, h)
    on-taken End e go later = (le_refl at, h)

pub taken-inside : (size : ℕ) (last : Bool) (s : List ℕ) (n : ℕ) → (some_of size last s n).taken ≤ length s
unfolding some_of
taken-inside size last s n = (taken-from (suc (length s)) size last s n 0 [] (omega arith)).1

-- a call that takes octets counts a frame
counted-from : (f size : ℕ) (last : Bool) (s : List ℕ) (n at : ℕ) (t : List ℕ)
    → (n ≤ (some_in f size last s n at t).unbroken) × (at < (some_in f size last s n at t).taken → n < (some_in f size last s n at t).unbroken)
unfolding some_in
counted-from zero size last s n at t = (le_refl n, λ more. absurd (omega arith))
counted-from (suc f) size last s n at t =
    ⊎_elim
    (λ (b : size < length t + longest_step). simp (lt-ltb _ _ b) (le_refl n, λ (more : at < at). absurd (omega arith)))
    (λ (b : length t + longest_step ≤ size).
    simp (le-ltb _ _ b)
    (on-counted (frame_of last (drop at s)) (λ l. some_in f size last s (n + 1) (at + (4 + l)) (t ++ text_of (frame_of last (drop at s)) n (drop at s)))
    (λ l. (counted-from f size last s (n + 1) (at + (4 + l)) (t ++ text_of (frame_of last (drop at s)) n (drop at s))).0)))
    (split size (length t + longest_step))
  where
    on-counted : (F : Frame) (go : ℕ → Found) → ((l : ℕ) → n + 1 ≤ (go l).unbroken)
        → (n ≤ (on_frame F go (found (ends_run F) (t ++ text_of F n (drop at s)) at n)).unbroken)
        × (at < (on_frame F go (found (ends_run F) (t ++ text_of F n (drop at s)) at n)).taken → n < (on_frame F go (found (ends_run F) (t ++ text_of F n (drop at s)) at n)).unbroken)
    on-counted (Whole k l) go h = (omega (arith, h l), λ _. omega (arith, h l))
    on-counted Broken go h = (le_refl n, λ more. absurd (omega arith))
    on-counted More go h = (le_refl n, λ more. absurd (omega arith))
    on-counted End go h = (le_refl n, λ more. absurd (omega arith))

pub counted : (size : ℕ) (last : Bool) (s : List ℕ) (n : ℕ)
    → (n ≤ (some_of size last s n).unbroken) × (0 < (some_of size last s n).taken → n < (some_of size last s n).unbroken)
unfolding some_of
counted size last s n = counted-from (suc (length s)) size last s n 0 []

-- a call with room for a step that takes nothing and does not end the run has fewer than 95 octets, and more may come
pub stuck : (size : ℕ) (last : Bool) (s : List ℕ) (n : ℕ) → longest_step ≤ size → (some_of size last s n).taken ≡ 0 → (some_of size last s n).ended ≡ false
    → (last ≡ false) × (length s < 95)
unfolding some_of some_in
stuck size last s n room none on-going =
    by (frame_of last s) refl (λ l. some_in (length s) size last s (n + 1) (0 + (4 + l)) (text_of (frame_of last s) n s)) (text_of (frame_of last s) n s)
    (λ l i. (taken-from (length s) size last s (n + 1) (0 + (4 + l)) (text_of (frame_of last s) n s) i).0)
    (simp (le-ltb size (0 + longest_step) room) at none) (simp (le-ltb size (0 + longest_step) room) at on-going)
  where
    by : (F : Frame) → frame_of last s ≡ F → (go : ℕ → Found) (t : List ℕ) → ((l : ℕ) → 0 + (4 + l) ≤ length s → 0 + (4 + l) ≤ (go l).taken)
        → (on_frame F go (found (ends_run F) t 0 n)).taken ≡ 0 → (on_frame F go (found (ends_run F) t 0 n)).ended ≡ false → (last ≡ false) × (length s < 95)
    by (Whole k l) e go t h a b = absurd (omega (arith, h l (omega (arith, whole-there last s k l e))))
    by Broken e go t h a b = absurd (let z : ◌≡◌ {A = Bool} true false = b in let y : ◌≡◌ {A = ℕ} 0 1 = cc in omega arith)
    by More e go t h a b = frame-waits last s e
    by End e go t h a b = absurd (let z : ◌≡◌ {A = Bool} true false = b in let y : ◌≡◌ {A = ℕ} 0 1 = cc in omega arith)
