-- Laws of the fields of a line.
use Rattle.std.proofs.Common.{◌≡◌, ℕ, zero, suc, ◌+◌, ◌-◌, ◌*◌, ◌<◌, ◌≤◌, Bool, true, false, cond, T, eqb, List, [], ◌∷◌, ◌++◌, length, get_or, take, drop, ℤ, sym, refl, ap, ◌∙◌, subst, ⊎_elim, append_assoc, append-nil, add-zero, arith, length-drop, get_or-drop, take_all, drop-drop, ne_eqb, eqb-true, Option, Some, None}
use Rattle.text.proofs.OutputLaws.{split}
use Rattle.text.specs.Marks.{FirstMark}
use Rattle.ground.specs.declared.signs.Parts.{Parts}
use Rattle.text.specs.Numerals.{is_digit, number_from, digits_of, numeral_of}
use Rattle.text.specs.Widths.{Means}
use Rattle.text.specs.LineFields.{fields_from, fields_of, field_at, IsAbsent, Starts}

-- ---- the first field, up to the first space or to the end

uncut : (f s : List ℕ) → ((k : ℕ) → k < length s → get_or s k 0 ≡ 32 → ⊥) → fields_from f s ≡ (f ++ s) ∷ []
unfolding fields_from
uncut f [] n = rw append-nil
uncut f (b ∷ s) n = rw (ne_eqb b 32 (n 0 (omega arith)), uncut (f ++ b ∷ []) s (λ k h. n (suc k) (omega arith)), append_assoc)

cut : (f s : List ℕ) (r : ℕ) → ((k : ℕ) → k < r → get_or s k 0 ≡ 32 → ⊥) → r < length s → get_or s r 0 ≡ 32 → fields_from f s ≡ (f ++ take r s) ∷ fields_of (drop (suc r) s)
unfolding fields_from
cut f [] r n h e = absurd (omega arith)
cut f (b ∷ s) zero n h e = rw (e, append-nil)
cut f (b ∷ s) (suc r) n h e =
    rw (ne_eqb b 32 (n 0 (omega arith)), cut (f ++ b ∷ []) s r (λ k l. n (suc k) (omega arith)) (omega arith) e, append_assoc)

module _ {line : List ℕ} {from r : ℕ} (m : FirstMark 32 line from r) where
  pub marked : r < length line → fields_of (drop from line) ≡ take (r - from) (drop from line) ∷ fields_of (drop (r + 1) line)
  marked h =
      let a = m.after in
      let d : from + (r - from) ≡ r = omega arith in
      let e : from + suc (r - from) ≡ r + 1 = omega arith in
      let l : r - from < length (drop from line) = rw length-drop (omega arith) in
      let space : get_or (drop from line) (r - from) 0 ≡ 32 = rw (get_or-drop, d) (m.found h) in
      let c = cut [] (drop from line) (r - from) (λ k l e. m.first (from + k) (omega arith) (omega arith) (rw get_or-drop at e)) l space in
      rw (drop-drop, e) at c

  pub unmarked : length line ≤ r → fields_of (drop from line) ≡ take (r - from) (drop from line) ∷ []
  unmarked h =
      let i = m.inside in
      let l : length (drop from line) ≤ r - from = rw length-drop (omega arith) in
      rw (take_all (r - from) (drop from line) l)
      (uncut [] (drop from line) (λ k l e. m.first (from + k) (omega (arith, rw length-drop at l)) (omega arith) (rw get_or-drop at e)))

-- ---- the places of fields

some-by : (f s : List ℕ) (b : ℕ) (t : Bool) → eqb b 32 ≡ t → ((g : List ℕ) → 0 < length (fields_from g s)) → 0 < length (fields_from f (b ∷ s))
unfolding fields_from
some-by f s b true e some = rw e (omega arith)
some-by f s b false e some = rw e (some (f ++ b ∷ []))

-- no line is without a field
pub some-field : (f s : List ℕ) → 0 < length (fields_from f s)
unfolding fields_from
some-field f [] = omega arith
some-field f (b ∷ s) = some-by f s b (eqb b 32) refl (λ g. some-field g s)

module _ {line : List ℕ} {number from r : ℕ} (s : Starts line number from) (m : FirstMark 32 line from r) where
  left : length (fields_of (drop from line)) ≡ length (fields_of line) - number
  left = ap length s.rest ∙ length-drop number (fields_of line)

  -- a field that ends at the line's end is the last, and one that ends at a space is not
  pub last : length line ≤ r → length (fields_of line) ≡ number + 1
  last h =
      let one : length (fields_of (drop from line)) ≡ 1 = ap length (unmarked m h) in
      omega (arith, left)

  pub not_last : r < length line → number + 1 < length (fields_of line)
  not_last h =
      let more : length (fields_of (drop from line)) ≡ suc (length (fields_of (drop (r + 1) line))) = ap length (marked m h) in
      omega (arith, left, some-field [] (drop (r + 1) line))

  pub start-next : r < length line → Starts line (number + 1) (r + 1)
  start-next h =
      record {
        inside = omega arith;
        rest = rw (← drop-drop 1 number (fields_of line), ← s.rest, marked m h);
      }

  pub stands : take (r - from) (drop from line) ≡ field_at line number
  stands =
      let first : get_or (fields_of (drop from line)) 0 [] ≡ field_at line number = rw (s.rest, get_or-drop, add-zero) in
      ⊎_elim (λ (h : r < length line). ap (λ (fs : List (List ℕ)). get_or fs 0 []) (sym (marked m h)) ∙ first)
      (λ (h : length line ≤ r). ap (λ (fs : List (List ℕ)). get_or fs 0 []) (sym (unmarked m h)) ∙ first)
      (split r (length line))

-- ---- a line of one field

alone-by : (f s : List ℕ) (b : ℕ) {t : List ℕ} (c : Bool) → eqb b 32 ≡ c → fields_from f (b ∷ s) ≡ t ∷ [] → (fields_from (f ++ b ∷ []) s ≡ t ∷ [] → t ≡ (f ++ b ∷ []) ++ s) → t ≡ f ++ b ∷ s
unfolding fields_from
alone-by f s b true e h next =
    let g = ap length (rw e at h) in
    absurd (omega (arith, some-field [] s))
alone-by f s b false e h next = rw append_assoc at (next (rw e at h))

alone-from : (f s : List ℕ) {t : List ℕ} → fields_from f s ≡ t ∷ [] → t ≡ f ++ s
unfolding fields_from
alone-from f [] h = rw append-nil (cc)
alone-from f (b ∷ s) h = alone-by f s b (eqb b 32) refl h (alone-from (f ++ b ∷ []) s)

-- it is that field
pub alone : (s : List ℕ) {t : List ℕ} → fields_of s ≡ t ∷ [] → t ≡ s
alone s h = alone-from [] s h

-- ---- a number has no space in it

nothing_written : {A : Type 0} {p : Parts} → None ≡ Some p → A
nothing_written e = let z : ◌≡◌ {A = ℕ} 0 1 = cc in absurd (omega arith)

digit-first : {n : Option Parts} {p : Parts} (c : Bool) → cond c n None ≡ Some p → (c ≡ true) × (n ≡ Some p)
digit-first true e = (refl, e)
digit-first false e = nothing_written e

digit-no-space : {b : ℕ} → is_digit b ≡ true → b ≡ 32 → ⊥
digit-no-space d z = let q : false ≡ true = rw z at d in subst T (sym q) tt

digits-uncut : (f s : List ℕ) (negative : Bool) (v : ℕ) {p : Parts} → number_from negative v s ≡ Some p → fields_from f s ≡ (f ++ s) ∷ []
unfolding fields_from number_from
digits-uncut f [] negative v h = rw append-nil
digits-uncut f (b ∷ s) negative v h =
    let d = digit-first (is_digit b) h in
    rw (ne_eqb b 32 (digit-no-space d.0), digits-uncut (f ++ b ∷ []) s negative (10 * v + (b - 48)) d.1, append_assoc)

behind-sign : (f s : List ℕ) {p : Parts} → digits_of true s ≡ Some p → fields_from f s ≡ (f ++ s) ∷ []
unfolding digits_of
behind-sign f [] h = nothing_written h
behind-sign f (b ∷ s) h = digits-uncut f (b ∷ s) true 0 h

signed_by : (b : ℕ) (s : List ℕ) {p : Parts} (c : Bool) → eqb b 45 ≡ c → cond c (digits_of true s) (digits_of false (b ∷ s)) ≡ Some p → fields_of (b ∷ s) ≡ (b ∷ s) ∷ []
unfolding fields_from digits_of
signed_by b s true e h = rw (ne_eqb b 32 (λ z. absurd (omega (arith, eqb-true b 45 e)))) (behind-sign (b ∷ []) s h)
signed_by b s false e h = digits-uncut [] (b ∷ s) false 0 h

pub number-uncut : (s : List ℕ) {z : ℤ} → Means (numeral_of s) z → fields_of s ≡ s ∷ []
unfolding numeral_of
number-uncut [] m = nothing_written m.number
number-uncut (b ∷ s) m = signed_by b s (eqb b 45) refl m.number

pub dash-uncut : {s : List ℕ} → IsAbsent s → fields_of s ≡ s ∷ []
unfolding fields_from
dash-uncut e = rw e
