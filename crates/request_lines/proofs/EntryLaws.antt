-- Laws of what a field holds.
use Rattle.std.specs.Prelude.{None}
use mathlib.Core.Path.{◌≡◌, refl, sym, ap, ◌∙◌, subst}
use mathlib.Core.Bool.{true, false}
use mathlib.Core.List.{List, [], ◌∷◌}
use mathlib.Core.Logic.{⊎_elim}
use Prim.Native.Nat.{ℕ, suc, ◌-◌, ◌≤◌, ◌<◌}
use native.Mathlib.Nat.{add-zero}
use native.Mathlib.Omega.{arith}
use lib.Dec.{T}
use lib.ListN.{length, get_or, take, drop, length-drop}
use lib.Seq.{drop-cons, get_or-drop, get_or-take, length-take-le}
use borrow.Author.Tests.{ne_eqb}
use Rattle.text.specs.Marks.{FirstMark, NoMark}
use Rattle.text.specs.Numerals.{is_digit, numeral_of, digits_of, DigitsFrom}
use Rattle.text.specs.declared.numeral.Digits.{Digits}
use Rattle.request_lines.specs.declared.entries.Entry.TheVariants.{Plain, Minus, Dash, Neither}
use Rattle.text.proofs.MarkLaws.{none-then-first}
use Rattle.text.proofs.NumeralLaws.{row-stopped, row-whole}
use Rattle.text.proofs.OutputLaws.{split}
use Rattle.text.specs.LineFields.{IsAbsent}
use Rattle.request_lines.specs.Entries.{PastSign, EntryAt}

pub dash-nothing : numeral_of (45 ∷ []) ≡ None
unfolding numeral_of digits_of
dash-nothing = refl

none-nothing : digits_of false [] ≡ None
unfolding digits_of
none-nothing = refl

-- ---- a part of a line

part_length : (line : List ℕ) (from e : ℕ) → from ≤ e → e ≤ length line → length (take (e - from) (drop from line)) ≡ e - from
part_length line from e h l = length-take-le (e - from) (drop from line) (rw length-drop (omega arith))

part-head : (line : List ℕ) (from e : ℕ) → from < e → get_or (take (e - from) (drop from line)) 0 0 ≡ get_or line from 0
part-head line from e h = get_or-take (e - from) (drop from line) 0 0 (omega arith) ∙ get_or-drop from line 0 0 ∙ ap (λ (k : ℕ). get_or line k 0) (add-zero from)

module _ {line : List ℕ} {from first : ℕ} (p : PastSign line from first) where
  -- after a minus sign
  minus-part : from < first → (e : ℕ) → first ≤ e → e ≤ length line → take (e - from) (drop from line) ≡ 45 ∷ take (e - first) (drop first line)
  minus-part s e h l =
      let a : e - from ≡ suc (e - first) = omega (arith, (p.minus s).0) in
      let b : suc from ≡ first = omega (arith, (p.minus s).0) in
      rw (a, drop-cons line from 0 (omega arith), (p.minus s).1, b)

  minus-numeral : from < first → (e : ℕ) → first ≤ e → e ≤ length line → numeral_of (take (e - from) (drop from line)) ≡ digits_of true (take (e - first) (drop first line))
  unfolding numeral_of
  minus-numeral s e h l = rw (minus-part s e h l)

  -- with no sign
  plain-numeral : first ≡ from → (e : ℕ) → from ≤ e → e ≤ length line → numeral_of (take (e - from) (drop from line)) ≡ digits_of false (take (e - first) (drop first line))
  unfolding numeral_of digits_of
  plain-numeral s e h l =
      ⊎_elim
      (λ (m : from < e).
      let a : e - from ≡ suc (e - from - 1) = omega arith in
      rw (s, a, drop-cons line from 0 (omega arith), ne_eqb (get_or line from 0) 45 (p.none s (omega arith))))
      (λ (m : e ≤ from).
      let a : e - from ≡ 0 = omega arith in
      rw (s, a))
      (split from e)

  not-dash : (e : ℕ) → first ≤ e → e ≤ length line → (from < first → first < e) → IsAbsent (take (e - from) (drop from line)) → ⊥
  not-dash e h l some a =
      let after = p.after in
      let n : e - from ≡ 1 = sym (part_length line from e (omega arith) l) ∙ ap length a in
      ⊎_elim (λ (s : from < first). omega (arith, some s, (p.minus s).0))
      (λ (s : first ≤ from).
      p.none (omega arith) (omega arith) (sym (part-head line from e (omega arith)) ∙ ap (λ (f : List ℕ). get_or f 0 0) a))
      (split from first)

-- ---- what the field that starts at a place holds, by its sign and its digits

module _ {line : List ℕ} {from first : ℕ} {d : Digits} (p : PastSign line from first) (g : DigitsFrom line first d) where
  -- neither the sign nor a digit is a space
  no-space : NoMark 32 line from d.end
  no-space =
      record {
        none = λ k h l m.
            ⊎_elim
            (λ (s : k < first).
            let e : k ≡ from = omega (arith, (p.minus (omega arith)).0) in
            let sign : get_or line from 0 ≡ 45 = (p.minus (omega arith)).1 in
            omega (arith, ap (λ (n : ℕ). get_or line n 0) e))
            (λ (s : first ≤ k). subst T (sym (g.row.each k h s) ∙ ap is_digit m) tt)
            (split k first);
      }

  ends : (d.end < length line → get_or line d.end 0 ≡ 32) → FirstMark 32 line from d.end
  ends f = record { after = omega (arith, p.after, g.row.after); inside = g.row.inside; found = f; first = no-space.none }

  -- what stands after the digits is no space
  pub far-entry : {far : ℕ} → d.end < length line → (get_or line d.end 0 ≡ 32 → ⊥) → FirstMark 32 line d.end far → EntryAt line from Neither far
  far-entry {far} h n m =
      let past : d.end < far = ⊎_elim (λ (l : d.end < far). l) (λ (l : far ≤ d.end). absurd (n (ap (λ (k : ℕ). get_or line k 0) (omega (arith, m.after)) ∙ m.found (omega arith)))) (split d.end far) in
      let after = g.row.after in
      let inside = m.inside in
      let nothing : numeral_of (take (far - from) (drop from line)) ≡ None =
      ⊎_elim (λ (s : from < first). minus-numeral p s far (omega arith) inside ∙ row-stopped g.row true far past inside (g.stops h))
      (λ (s : first ≤ from). plain-numeral p (omega (arith, p.after)) far (omega (arith, p.after)) inside ∙ row-stopped g.row false far past inside (g.stops h))
      (split from first) in
      record {
        end = none-then-first no-space (omega (arith, p.after)) m;
        holds = (nothing, not-dash p far (omega arith) inside (λ s. omega arith));
      }

  module _ (f : d.end < length line → get_or line d.end 0 ≡ 32) where
    pub minus-entry : first < d.end → from < first → d.size ≤ 18446744073709551615 → EntryAt line from (Minus d.size) d.end
    minus-entry h s l =
        record {
          end = ends f;
          holds = minus-numeral p s d.end g.row.after g.row.inside ∙ row-whole g.row true h l;
        }

    pub plain_entry : first < d.end → first ≤ from → d.size ≤ 18446744073709551615 → EntryAt line from (Plain d.size) d.end
    plain_entry h s l =
        record {
          end = ends f;
          holds = plain-numeral p (omega (arith, p.after)) d.end (omega (arith, p.after)) g.row.inside ∙ row-whole g.row false h l;
        }

    pub dash-entry : d.end ≤ first → from < first → EntryAt line from Dash d.end
    dash-entry h s =
        let e : d.end - first ≡ 0 = omega (arith, g.row.after) in
        let dash : take (d.end - from) (drop from line) ≡ 45 ∷ [] = minus-part p s d.end g.row.after g.row.inside ∙ rw e in
        record { end = ends f; holds = dash }

    pub empty-entry : d.end ≤ first → first ≤ from → EntryAt line from Neither d.end
    empty-entry h s =
        let e : d.end - first ≡ 0 = omega (arith, g.row.after) in
        let none : digits_of false (take (d.end - first) (drop first line)) ≡ None = rw e none-nothing in
        record {
          end = ends f;
          holds = (plain-numeral p (omega (arith, p.after)) d.end (omega (arith, p.after, g.row.after)) g.row.inside ∙ none, not-dash p d.end g.row.after g.row.inside (λ t. absurd (omega arith)));
        }
