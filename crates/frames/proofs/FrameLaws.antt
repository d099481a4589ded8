-- Laws of the frame at the start of some octets: where it is cut, that it stays when more octets follow, when more are waited for.
use Prim.Native.Nat.{ℕ, suc, ◌+◌, ◌-◌, ◌*◌, ◌≤◌, ◌<◌}
use mathlib.Core.Path.{◌≡◌, refl, sym, ap, subst}
use mathlib.Core.Bool.{Bool, true, false, ◌&&◌}
use mathlib.Core.List.{List, [], ◌∷◌, ◌++◌, append-nil}
use native.Mathlib.Omega.{arith}
use lib.ListN.{length, get_or, drop, length-append}
use lib.Dec.{T, leb, eqb}
use borrow.Author.Tests.{leb-true, leb-false, eqb-true, le-leb}
use Rattle.frames.specs.Frames.{frame_of, headed, head_sound, octets_of, pick}
use Rattle.frames.specs.declared.Frame.{Frame}
use Rattle.frames.specs.declared.Frame.TheVariants.{Whole, Broken, More, End}

-- ---- by how many octets there are

pub short-more : (s : List ℕ) → length s < 4 → frame_of false s ≡ More
unfolding frame_of
short-more [] h = refl
short-more (a ∷ []) h = refl
short-more (a ∷ b ∷ []) h = refl
short-more (a ∷ b ∷ c ∷ []) h = refl
short-more (a ∷ b ∷ c ∷ d ∷ s) h = absurd (omega arith)

pub short-end : (s : List ℕ) → length s ≡ 0 → frame_of true s ≡ End
unfolding frame_of
short-end [] h = refl
short-end (a ∷ s) h = absurd (omega arith)

pub short-broken : (s : List ℕ) → length s < 4 → (length s ≡ 0 → ⊥) → frame_of true s ≡ Broken
unfolding frame_of
short-broken [] h n = absurd (n refl)
short-broken (a ∷ []) h n = refl
short-broken (a ∷ b ∷ []) h n = refl
short-broken (a ∷ b ∷ c ∷ []) h n = refl
short-broken (a ∷ b ∷ c ∷ d ∷ s) h n = absurd (omega arith)

pub with-head : (last : Bool) (s : List ℕ) → 4 ≤ length s
    → frame_of last s ≡ headed last (256 * get_or s 0 0 + get_or s 1 0) (get_or s 2 0) (get_or s 3 0) (length s - 4)
unfolding frame_of
with-head last [] h = absurd (omega arith)
with-head last (a ∷ []) h = absurd (omega arith)
with-head last (a ∷ b ∷ []) h = absurd (omega arith)
with-head last (a ∷ b ∷ c ∷ []) h = absurd (omega arith)
with-head last (a ∷ b ∷ c ∷ d ∷ s) h =
    let e : length s ≡ suc (suc (suc (suc (length s)))) - 4 = omega arith in
    ap (λ (n : ℕ). headed last (256 * a + b) c d n) e

-- ---- a sound head

pub record Head (L version kind : ℕ) : Type 0 where
  pub low : 2 ≤ L
  pub high : L ≤ 93
  pub first-version : version ≡ 1
  pub known : kind ≤ 1

four : (a b c d : Bool) → (a && b && c && d) ≡ true → (a ≡ true) × (b ≡ true) × (c ≡ true) × (d ≡ true)
four true true true true h = (refl, refl, refl, refl)
four true true true false h = absurd (subst T (sym h) tt)
four true true false d h = absurd (subst T (sym h) tt)
four true false c d h = absurd (subst T (sym h) tt)
four false b c d h = absurd (subst T (sym h) tt)

pub sound-head : (L version kind : ℕ) → head_sound L version kind ≡ true → Head L version kind
sound-head L version kind h =
    let f = four (leb 2 L) (leb L 93) (eqb version 1) (leb kind 1) h in
    record {
      low = leb-true 2 L f.0;
      high = leb-true L 93 f.1;
      first-version = eqb-true version 1 f.2;
      known = leb-true kind 1 f.3;
    }

-- ---- what holds of every frame that is found

pick-case : (P : Frame → Type 0) (b : Bool) {x y : Frame} → (b ≡ true → P x) → (b ≡ false → P y) → P (pick b x y)
pick-case P true f g = f refl
pick-case P false f g = g refl

-- its octets are there
abbrev There : ℕ → Frame → Type 0
There n F = octets_of F ≤ n

head-there : (last : Bool) (L v k n : ℕ) → There (4 + n) (headed last L v k n)
head-there last L v k n =
    pick-case (There (4 + n)) (head_sound L v k)
    (λ _. pick-case (There (4 + n)) (leb (L - 2) n) (λ fits. omega (arith, leb-true (L - 2) n fits))
    (λ _. pick-case (There (4 + n)) last (λ _. omega arith) (λ _. omega arith)))
    (λ _. omega arith)

pub frame-there : (last : Bool) (s : List ℕ) → octets_of (frame_of last s) ≤ length s
unfolding frame_of
frame-there last [] = pick-case (There 0) last (λ _. omega arith) (λ _. omega arith)
frame-there last (a ∷ []) = pick-case (There 1) last (λ _. omega arith) (λ _. omega arith)
frame-there last (a ∷ b ∷ []) = pick-case (There 2) last (λ _. omega arith) (λ _. omega arith)
frame-there last (a ∷ b ∷ c ∷ []) = pick-case (There 3) last (λ _. omega arith) (λ _. omega arith)
frame-there last (a ∷ b ∷ c ∷ d ∷ s) = omega (arith, head-there last (256 * a + b) c d (length s))

-- ---- a frame that is found stays when more octets follow

stays : (sound fits fits' : Bool) (k l : ℕ) → (fits ≡ true → fits' ≡ true)
    → (pick sound (pick fits (Whole k l) More) Broken ≡ More → ⊥)
    → pick sound (pick fits' (Whole k l) Broken) Broken ≡ pick sound (pick fits (Whole k l) More) Broken
stays false fits fits' k l h n = refl
stays true true fits' k l h n = rw (h refl)
stays true false fits' k l h n = absurd (n refl)

pub frame-stays : (last : Bool) (s later : List ℕ) → (last ≡ true → later ≡ []) → (frame_of last s ≡ More → ⊥) → frame_of true (s ++ later) ≡ frame_of last s
unfolding frame_of
frame-stays true s later l n = rw (l refl, append-nil)
frame-stays false [] later l n = absurd (n refl)
frame-stays false (a ∷ []) later l n = absurd (n refl)
frame-stays false (a ∷ b ∷ []) later l n = absurd (n refl)
frame-stays false (a ∷ b ∷ c ∷ []) later l n = absurd (n refl)
frame-stays false (a ∷ b ∷ c ∷ d ∷ s) later l n =
    stays (head_sound (256 * a + b) c d) (leb (256 * a + b - 2) (length s)) (leb (256 * a + b - 2) (length (s ++ later))) d (256 * a + b - 2)
    (λ fits. le-leb (256 * a + b - 2) (length (s ++ later)) (omega (arith, leb-true (256 * a + b - 2) (length s) fits, length-append s later)))
    n

-- ---- when more octets are waited for

broken-not-more : Broken ≡ More → ⊥
broken-not-more e = let z : ◌≡◌ {A = ℕ} 0 1 = cc in omega arith

end-not-more : End ≡ More → ⊥
end-not-more e = let z : ◌≡◌ {A = ℕ} 0 1 = cc in omega arith

whole-not-more : (k l : ℕ) → Whole k l ≡ More → ⊥
whole-not-more k l e = let z : ◌≡◌ {A = ℕ} 0 1 = cc in omega arith

-- only behind fewer than 95 octets, and not where nothing follows
abbrev Waits : Bool → ℕ → Frame → Type 0
Waits last n F = F ≡ More → (last ≡ false) × (n < 95)

head-waits : (last : Bool) (L v k n : ℕ) → Waits last (4 + n) (headed last L v k n)
head-waits last L v k n =
    pick-case (Waits last (4 + n)) (head_sound L v k)
    (λ sound. pick-case (Waits last (4 + n)) (leb (L - 2) n)
    (λ _ e. absurd (whole-not-more k (L - 2) e))
    (λ cut. pick-case (Waits last (4 + n)) last (λ _ e. absurd (broken-not-more e))
    (λ no _. (no, omega (arith, (sound-head L v k sound).high, leb-false (L - 2) n cut)))))
    (λ _ e. absurd (broken-not-more e))

pub frame-waits : (last : Bool) (s : List ℕ) → Waits last (length s) (frame_of last s)
unfolding frame_of
frame-waits last [] = pick-case (Waits last 0) last (λ _ e. absurd (end-not-more e)) (λ no _. (no, omega arith))
frame-waits last (a ∷ []) = pick-case (Waits last 1) last (λ _ e. absurd (broken-not-more e)) (λ no _. (no, omega arith))
frame-waits last (a ∷ b ∷ []) = pick-case (Waits last 2) last (λ _ e. absurd (broken-not-more e)) (λ no _. (no, omega arith))
frame-waits last (a ∷ b ∷ c ∷ []) = pick-case (Waits last 3) last (λ _ e. absurd (broken-not-more e)) (λ no _. (no, omega arith))
frame-waits last (a ∷ b ∷ c ∷ d ∷ s) =
    let e : 4 + length s ≡ suc (suc (suc (suc (length s)))) = omega arith in
    subst (λ (n : ℕ). Waits last n (headed last (256 * a + b) c d (length s))) e (head-waits last (256 * a + b) c d (length s))

-- ---- what a frame is made of

abbrev pub Made : List ℕ → Frame → Type 0
Made s (Whole kind size) = (s ≡ 0 ∷ (2 + size) ∷ 1 ∷ kind ∷ drop 4 s) × (kind ≤ 1) × (size ≤ 91)
Made s Broken = Unit
Made s More = Unit
Made s End = s ≡ []

head-made : (last : Bool) (a b v k : ℕ) (m : List ℕ) → Made (a ∷ b ∷ v ∷ k ∷ m) (headed last (256 * a + b) v k (length m))
head-made last a b v k m =
    pick-case (Made (a ∷ b ∷ v ∷ k ∷ m)) (head_sound (256 * a + b) v k)
    (λ sound. pick-case (Made (a ∷ b ∷ v ∷ k ∷ m)) (leb (256 * a + b - 2) (length m)) (λ _. whole (sound-head (256 * a + b) v k sound))
    (λ _. pick-case (Made (a ∷ b ∷ v ∷ k ∷ m)) last (λ _. tt) (λ _. tt)))
    (λ _. tt)
  where
    whole : Head (256 * a + b) v k → Made (a ∷ b ∷ v ∷ k ∷ m) (Whole k (256 * a + b - 2))
    whole h =
        let high : a ≡ 0 = omega (arith, h.high) in
        let low : b ≡ 2 + (256 * a + b - 2) = omega (arith, h.low) in
        let version : v ≡ 1 = h.first-version in
        (cc, h.known, omega (arith, h.high))

pub frame_made : (last : Bool) (s : List ℕ) → Made s (frame_of last s)
unfolding frame_of
frame_made last [] = pick-case (Made []) last (λ _. refl) (λ _. tt)
frame_made last (a ∷ []) = pick-case (Made (a ∷ [])) last (λ _. tt) (λ _. tt)
frame_made last (a ∷ b ∷ []) = pick-case (Made (a ∷ b ∷ [])) last (λ _. tt) (λ _. tt)
frame_made last (a ∷ b ∷ c ∷ []) = pick-case (Made (a ∷ b ∷ c ∷ [])) last (λ _. tt) (λ _. tt)
frame_made last (a ∷ b ∷ c ∷ d ∷ s) = head-made last a b c d s

-- and what is made so is a frame, whatever follows
pub made-whole : (last : Bool) (kind : ℕ) (message s : List ℕ) → kind ≤ 1 → length message ≤ 91
    → frame_of last (0 ∷ (2 + length message) ∷ 1 ∷ kind ∷ message ++ s) ≡ Whole kind (length message)
unfolding frame_of
made-whole last kind message s known short =
    let L : 256 * 0 + (2 + length message) ≡ 2 + length message = omega arith in
    let size : 2 + length message - 2 ≡ length message = omega arith in
    rw L
    (simp (
      le-leb 2 (2 + length message) (omega arith),
      le-leb (2 + length message) 93 (omega arith),
      le-leb kind 1 known,
      size,
      le-leb (length message) (length (message ++ s)) (omega (arith, length-append message s)),
    ))
