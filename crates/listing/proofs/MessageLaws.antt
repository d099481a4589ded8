-- The listing is a line for each unbroken frame, and the number behind `end` is theirs.
use Prim.Native.Nat.{ℕ, zero, suc, ◌+◌, ◌≤◌, ◌<◌}
use mathlib.Core.Path.{◌≡◌, refl, sym, ap, ◌∙◌, subst}
use mathlib.Core.Bool.{Bool, true, false}
use mathlib.Core.List.{List, [], ◌∷◌, ◌++◌, append-nil, append_assoc}
use native.Mathlib.Omega.{arith}
use native.Mathlib.Nat.{add-zero}
use lib.ListN.{length, take, drop, length-drop, take-append-drop}
use lib.Seq.{take_at, drop_at, drop-drop, length-take-le}
use Rattle.frames.specs.Frames.{frame_of}
use Rattle.frames.specs.declared.Frame.{Frame}
use Rattle.frames.specs.declared.Frame.TheVariants.{Whole, Broken, More, End}
use Rattle.frames.proofs.FrameLaws.{short-end, frame_made, frame-waits, made-whole, Made}
use Rattle.listing.specs.Steps.{text_of, line_of}
use Rattle.listing.specs.Listing.{listing}
use Rattle.listing.specs.Streaming.{list_from}
use Rattle.listing.specs.Messages.{Message, framed, Input, nothing, broken, frame, message_lines, closing}
use Rattle.listing.proofs.StreamLaws.{list-step, whole-there}

-- the first message's line, and then the rest
list-framed : (n : ℕ) (m : Message) (s : List ℕ) → m.kind ≤ 1 → length m.octets ≤ 91
    → list_from n (framed m ++ s) ≡ line_of (n + 1) m.kind m.octets ++ list_from (n + 1) s
unfolding text_of
list-framed n m s known short =
    let past : drop (4 + length m.octets) (framed m ++ s) ≡ s = drop_at (framed m) s (4 + length m.octets) (omega arith) in
    let message : take (length m.octets) (m.octets ++ s) ≡ m.octets = take_at m.octets s (length m.octets) refl in
    list-step n (framed m ++ s) ∙ rw (made-whole true m.kind m.octets s known short, past, message)

list-from : {ms : List Message} {b : Bool} {s : List ℕ} (n : ℕ) → Input ms b s → list_from n s ≡ message_lines n ms ++ closing b (n + length ms)
unfolding message_lines closing text_of
list-from n nothing = list-step n [] ∙ rw (short-end [] refl, append-nil, add-zero)
list-from n (broken {s} e) = list-step n s ∙ rw (e, append-nil, add-zero)
list-from n (frame {ms = ms} {s = s} m known short rest) =
    let count : n + 1 + length ms ≡ n + suc (length ms) = omega arith in
    list-framed n m s known short
    ∙ ap (λ (t : List ℕ). line_of (n + 1) m.kind m.octets ++ t) (list-from (n + 1) rest)
    ∙ rw (count, append_assoc)

-- THE LISTING: a line for each unbroken frame, and the last line with their number
pub listing-lines : {ms : List Message} {b : Bool} {s : List ℕ} → Input ms b s → listing s ≡ message_lines 0 ms ++ closing b (length ms)
unfolding listing list_from
listing-lines {ms} {b} r = let e : 0 + length ms ≡ length ms = omega arith in list-from 0 r ∙ rw e

-- ---- every input is of that form

pub record Parsed (s : List ℕ) : Type 0 where
  pub messages : List Message
  pub cut : Bool
  pub input : Input messages cut s

first : (s : List ℕ) (k l : ℕ) → Made s (Whole k l) → 4 + l ≤ length s → framed (record { kind = k; octets = take l (drop 4 s) }) ++ drop (4 + l) s ≡ s
first s k l made there =
    let d = length-drop 4 s in
    let size : length (take l (drop 4 s)) ≡ l = length-take-le l (drop 4 s) (omega arith) in
    let parts : take l (drop 4 s) ++ drop (4 + l) s ≡ drop 4 s = ap (λ (t : List ℕ). take l (drop 4 s) ++ t) (sym (drop-drop l 4 s)) ∙ take-append-drop l (drop 4 s) in
    rw (size, parts) (sym made.0)

parsed-in : (most : ℕ) (s : List ℕ) → length s < most → Parsed s
parsed-in zero s h = absurd (omega arith)
parsed-in (suc most) s h = by (frame_of true s) refl (λ t l. parsed-in most t l)
  where
    by : (F : Frame) → frame_of true s ≡ F → ((t : List ℕ) → length t < most → Parsed t) → Parsed s
    by (Whole k l) e later =
        let there = whole-there true s k l e in
        let made : Made s (Whole k l) = subst (Made s) e (frame_made true s) in
        let m : Message = record { kind = k; octets = take l (drop 4 s) } in
        let d = length-drop 4 s in
        let size : length (take l (drop 4 s)) ≡ l = length-take-le l (drop 4 s) (omega arith) in
        let rest = later (drop (4 + l) s) (omega (arith, length-drop (4 + l) s)) in
        record {
          messages = m ∷ rest.messages;
          cut = rest.cut;
          input = subst (Input (m ∷ rest.messages) rest.cut) (first s k l made there) (frame m made.1 (omega (arith, made.2)) rest.input);
        }
    by Broken e later = record { messages = []; cut = true; input = broken e }
    by More e later = absurd (let z : ◌≡◌ {A = Bool} true false = (frame-waits true s e).0 in let y : ◌≡◌ {A = ℕ} 0 1 = cc in omega arith)
    by End e later =
        let empty : s ≡ [] = subst (Made s) e (frame_made true s) in
        record { messages = []; cut = false; input = rw empty nothing }

pub every-input : (s : List ℕ) → Parsed s
every-input s = parsed-in (suc (length s)) s (omega arith)

-- ---- and of one such form only

record Next (ms : List Message) (b : Bool) (s : List ℕ) (k l : ℕ) : Type 0 where
  rest : List Message
  split : ms ≡ record { kind = k; octets = take l (drop 4 s) } ∷ rest
  input : Input rest b (drop (4 + l) s)

-- what the messages are, by the frame at the start
abbrev First : List Message → Bool → List ℕ → Frame → Type 0
First ms b s (Whole k l) = Next ms b s k l
First ms b s Broken = (ms ≡ []) × (b ≡ true)
First ms b s More = ⊥
First ms b s End = (ms ≡ []) × (b ≡ false)

first_of : {ms : List Message} {b : Bool} {s : List ℕ} → Input ms b s → First ms b s (frame_of true s)
first_of nothing = subst (First [] false []) (sym (short-end [] refl)) (refl, refl)
first_of (broken {s} e) = subst (First [] true s) (sym e) (refl, refl)
first_of {b = b} (frame {ms = ms} {s = s} m known short rest) =
    let past : drop (4 + length m.octets) (framed m ++ s) ≡ s = drop_at (framed m) s (4 + length m.octets) (omega arith) in
    let message : take (length m.octets) (m.octets ++ s) ≡ m.octets = take_at m.octets s (length m.octets) refl in
    subst (First (m ∷ ms) b (framed m ++ s)) (sym (made-whole true m.kind m.octets s known short))
    (record {
      rest = ms;
      split = ap (λ (o : List ℕ). record { kind = m.kind; octets = o } ∷ ms) (sym message);
      input = subst (Input ms b) (sym past) rest;
    })

one_in : (most : ℕ) {ms ns : List Message} {b c : Bool} (s : List ℕ) → length s < most → Input ms b s → Input ns c s → (ms ≡ ns) × (b ≡ c)
one_in zero s h p q = absurd (omega arith)
one_in (suc most) {ms} {ns} {b} {c} s h p q = by (frame_of true s) refl (first_of p) (first_of q) (λ us vs t l u v. one_in most t l u v)
  where
    by : (F : Frame) → frame_of true s ≡ F → First ms b s F → First ns c s F
        → ((us vs : List Message) (t : List ℕ) → length t < most → Input us b t → Input vs c t → (us ≡ vs) × (b ≡ c)) → (ms ≡ ns) × (b ≡ c)
    by (Whole k l) e x y later =
        let r = later x.rest y.rest (drop (4 + l) s) (omega (arith, length-drop (4 + l) s, whole-there true s k l e)) x.input y.input in
        (x.split ∙ ap (λ (us : List Message). record { kind = k; octets = take l (drop 4 s) } ∷ us) r.0 ∙ sym y.split, r.1)
    by Broken e x y later = (x.0 ∙ sym y.0, x.1 ∙ sym y.1)
    by More e x y later = absurd x
    by End e x y later = (x.0 ∙ sym y.0, x.1 ∙ sym y.1)

pub input-one : {ms ns : List Message} {b c : Bool} (s : List ℕ) → Input ms b s → Input ns c s → (ms ≡ ns) × (b ≡ c)
input-one s p q = one_in (suc (length s)) s (omega arith) p q
