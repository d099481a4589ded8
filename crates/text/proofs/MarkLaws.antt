-- Laws of marks: there is one first mark, and none before a place.
use Rattle.std.proofs.Common.{◌≡◌, ℕ, ◌+◌, ◌-◌, ◌<◌, ◌≤◌, List, length, get_or, take, drop, sym, ap, ◌∙◌, ⊎_elim, arith, length-drop, length-take-le, eq-eqb, eqb-true, Some, None}
use Rattle.std.proofs.lemmas.List.Edits.{get_or-between}
use Rattle.memchr.specs.Find.{Nowhere, Passes, IsFirstByte, is_byte}
use Rattle.text.specs.Marks.{FirstMark, NoMark}
use Rattle.text.proofs.OutputLaws.{split}

none_before : {mark : ℕ} {s : List ℕ} {from q r : ℕ} → FirstMark mark s from q → FirstMark mark s from r → q < r → ⊥
none_before {q = q} a b h = b.first q h a.after (a.found (omega (arith, b.inside)))

pub mark-one : {mark : ℕ} {s : List ℕ} {from q r : ℕ} → FirstMark mark s from q → FirstMark mark s from r → q ≡ r
mark-one {q = q} {r} a b =
    ⊎_elim (λ (h : q < r). absurd (none_before a b h))
    (λ (h : r ≤ q). ⊎_elim (λ (l : r < q). absurd (none_before b a l)) (λ (l : q ≤ r). omega arith) (split r q))
    (split q r)

-- none up to a place, and what holds from there on
module _ {mark : ℕ} {s : List ℕ} {from i : ℕ} (a : NoMark mark s from i) where
  pub none-then-none : {e : ℕ} → NoMark mark s i e → NoMark mark s from e
  none-then-none b = record { none = λ k h l m. ⊎_elim (λ (n : k < i). a.none k n l m) (λ (n : i ≤ k). b.none k h n m) (split k i) }

  pub none-then-first : {r : ℕ} → from ≤ i → FirstMark mark s i r → FirstMark mark s from r
  none-then-first h b =
      record {
        after = omega (arith, b.after);
        inside = b.inside;
        found = b.found;
        first = (none-then-none (record { none = b.first })).none;
      }

-- what a search of the part from a place on says
module _ (s : List ℕ) (from mark : ℕ) (h : from ≤ length s) where
  abbrev part : List ℕ
  part = take (length s - from) (drop from s)

  part-length : length part ≡ length s - from
  part-length = length-take-le (length s - from) (drop from s) (omega (arith, length-drop from s))

  passes : (k : ℕ) → from ≤ k → k < length s → get_or s k 0 ≡ mark → Passes (is_byte mark) part (k - from)
  passes k l m e =
      let b : from + (k - from) ≡ k = omega arith in
      eq-eqb _ mark (get_or-between s from (length s) (k - from) 0 (omega arith) ∙ ap (λ (i : ℕ). get_or s i 0) b ∙ e)

  none : (end : ℕ) → Nowhere (Passes (is_byte mark) part) 0 end → (k : ℕ) → k < from + end → k < length s → from ≤ k → get_or s k 0 ≡ mark → ⊥
  none end n k l m f e = n (k - from) (omega arith) (omega arith) (passes k f m e)

  pub mark-found : (place : ℕ) → IsFirstByte (is_byte mark) part (Some place) → FirstMark mark s from (from + place)
  mark-found place (b, p) =
      let l : from + place < length s = omega (arith, b.high, part-length) in
      record {
        after = omega arith;
        inside = omega arith;
        found = λ _. sym (get_or-between s from (length s) place 0 l) ∙ eqb-true _ mark p;
        first = λ k m f e. none place b.before k m (omega arith) f e;
      }

  pub mark-absent : IsFirstByte (is_byte mark) part None → FirstMark mark s from (length s)
  mark-absent n = record {
    after = h;
    inside = omega arith;
    found = λ l. absurd (omega arith);
    first = λ k m f e. none (length part) n k (omega (arith, part-length)) m f e;
  }
