-- Rows of a table: a row by its number, an entry by its place in its row, and the first place by how many of a row are below.
use mathlib.Core.Path.{◌≡◌, refl, sym, ap, subst, subst⁻¹, ◌∙◌}
use mathlib.Core.Bool.{Bool, true, false}
use mathlib.Core.List.{List, [], ◌∷◌}
use Prim.Native.Nat.{ℕ, zero, suc, ◌+◌, ◌-◌, ◌/◌, ◌%◌, ◌≤◌, ◌<◌}
use native.Mathlib.Nat.{add-sub_of_le, add-zero, le_trans}
use native.Mathlib.Omega.{arith}
use borrow.Author.Tests.{ltb-true, ltb-false, lt-ltb, le-ltb}
use lib.Dec.{ltb}
use lib.ListN.{get_or, length, take}
use lib.Seq.{get_or-take}
use Rattle.radii.specs.Rising.{Rising, Among, FirstAt}
use Rattle.radii.specs.Rows.{IsRow, entries_of, row_from, below}
use Rattle.radii.specs.declared.rows.Row.{Row}

pub moved : {xs : List ℕ} {r : Row} {k l : ℕ} → IsRow xs k r → k ≡ l → IsRow xs l r
moved {xs} {r} e p = subst (λ (k : ℕ). IsRow xs k r) p e

-- the entry at a place of a row
pub in_row : (xs : List ℕ) (i k : ℕ) → k < 8 → get_or (row_from xs i) k 0 ≡ get_or xs (i + k) 0
in_row xs i zero h = ap (λ (j : ℕ). get_or xs j 0) (sym (add-zero i))
in_row xs i (suc zero) h = refl
in_row xs i (suc (suc zero)) h = refl
in_row xs i (suc (suc (suc zero))) h = refl
in_row xs i (suc (suc (suc (suc zero)))) h = refl
in_row xs i (suc (suc (suc (suc (suc zero))))) h = refl
in_row xs i (suc (suc (suc (suc (suc (suc zero)))))) h = refl
in_row xs i (suc (suc (suc (suc (suc (suc (suc zero))))))) h = refl
in_row xs i (suc (suc (suc (suc (suc (suc (suc (suc k)))))))) h = absurd (omega arith)

pub last_of : {xs : List ℕ} {k : ℕ} {r : Row} → IsRow xs k r → r.7 ≡ get_or xs (k + 7) 0
last_of is = ap (λ (ns : List ℕ). get_or ns 7 0) is.entries

-- the same by a half of the row, a half of that, and one of two
pub by-halves : (a b c d e f g h k : ℕ) → k < 8 →
    get_or (get_or (get_or (a ∷ e ∷ []) (k / 4) 0 ∷ get_or (c ∷ g ∷ []) (k / 4) 0 ∷ []) (k / 2 % 2) 0 ∷ get_or (get_or (b ∷ f ∷ []) (k / 4) 0 ∷ get_or (d ∷ h ∷ []) (k / 4) 0 ∷ []) (k / 2 % 2) 0 ∷ []) (k % 2) 0 ≡
    get_or (a ∷ b ∷ c ∷ d ∷ e ∷ f ∷ g ∷ h ∷ []) k 0
by-halves a b c d e f g h zero l = refl
by-halves a b c d e f g h (suc zero) l = refl
by-halves a b c d e f g h (suc (suc zero)) l = refl
by-halves a b c d e f g h (suc (suc (suc zero))) l = refl
by-halves a b c d e f g h (suc (suc (suc (suc zero)))) l = refl
by-halves a b c d e f g h (suc (suc (suc (suc (suc zero))))) l = refl
by-halves a b c d e f g h (suc (suc (suc (suc (suc (suc zero)))))) l = refl
by-halves a b c d e f g h (suc (suc (suc (suc (suc (suc (suc zero))))))) l = refl
by-halves a b c d e f g h (suc (suc (suc (suc (suc (suc (suc (suc k)))))))) l = absurd (omega arith)

-- numbers that do not fall
pub record Ordered (ns : List ℕ) : Type 0 where
  pub ordered : (i j : ℕ) → i ≤ j → j < length ns → get_or ns i 0 ≤ get_or ns j 0

rest : {n : ℕ} {ns : List ℕ} → Ordered (n ∷ ns) → Ordered ns
rest o = record { ordered = λ i j h l. o.ordered (suc i) (suc j) (omega arith) (omega arith) }

counted : {n x : ℕ} (ns : List ℕ) → n < x → below x (n ∷ ns) ≡ suc (below x ns)
counted {n} {x} ns h = rw (lt-ltb n x h) (omega arith)

not-counted : {n x : ℕ} (ns : List ℕ) → x ≤ n → below x (n ∷ ns) ≡ below x ns
not-counted {n} {x} ns h = rw (le-ltb n x h) (omega arith)

none_below : (x : ℕ) (ns : List ℕ) → ((i : ℕ) → i < length ns → x ≤ get_or ns i 0) → below x ns ≡ 0
none_below x [] h = refl
none_below x (n ∷ ns) h = not-counted ns (h 0 (omega arith)) ∙ none_below x ns (λ i l. h (suc i) (omega arith))

-- so many are below x, and those come first
pub record Parted (x : ℕ) (ns : List ℕ) (many : ℕ) : Type 0 where
  pub most : many ≤ length ns
  pub before : (i : ℕ) → i < many → get_or ns i 0 < x
  pub after : many < length ns → x ≤ get_or ns many 0

parted-one : {n x many : ℕ} {ns : List ℕ} → n < x → Parted x ns many → Parted x (n ∷ ns) (suc many)
parted-one {n} {x} {many} {ns} h p = record { most = omega (arith, p.most); before = first; after = λ l. p.after (omega arith) }
  where
    first : (i : ℕ) → i < suc many → get_or (n ∷ ns) i 0 < x
    first zero l = h
    first (suc i) l = p.before i (omega arith)

pub parted : (x : ℕ) (ns : List ℕ) → Ordered ns → Parted x ns (below x ns)
parted x [] o = record { most = omega arith; before = λ i l. absurd (omega arith); after = λ l. absurd (omega arith) }
parted x (n ∷ ns) o = by (ltb n x) refl (parted x ns (rest o))
  where
    by : (t : Bool) → ltb n x ≡ t → Parted x ns (below x ns) → Parted x (n ∷ ns) (below x (n ∷ ns))
    by true e p = let h = ltb-true n x e in subst⁻¹ (Parted x (n ∷ ns)) (counted ns h) (parted-one h p)
    by false e p =
        let h = ltb-false n x e in
        subst⁻¹ (Parted x (n ∷ ns)) (none_below x (n ∷ ns) (λ i l. le_trans h (o.ordered 0 i (omega arith) l)))
        (record { most = omega arith; before = λ i l. absurd (omega arith); after = λ l. h })

-- the first place, where it is one of a row's: it is after those of the row's first seven that are below x
module _ {xs : List ℕ} {x k : ℕ} (up : Rising xs) (among : Among xs x k 7) where
  in-seven : (i : ℕ) → i < 7 → get_or (take 7 (row_from xs k)) i 0 ≡ get_or xs (k + i) 0
  in-seven i h = get_or-take 7 (row_from xs k) i 0 h ∙ in_row xs k i (omega arith)

  seven-ordered : Ordered (take 7 (row_from xs k))
  seven-ordered = record { ordered = λ i j h l. rw (in-seven i (omega arith), in-seven j l) (up (k + i) (k + j) (omega arith) (omega (arith, among.place))) }

  found : (many : ℕ) → Parted x (take 7 (row_from xs k)) many → FirstAt xs x (k + many)
  found many p = record { place = omega (arith, among.place, few); here = rw (add-zero (k + many)) (here (ltb many 7) refl); none = none }
    where
      few : many ≤ 7
      few = p.most

      here : (t : Bool) → ltb many 7 ≡ t → x ≤ get_or xs (k + many) 0
      here true e = let l = ltb-true many 7 e in rw (← in-seven many l) (p.after l)
      here false e = let q : 7 ≡ many = omega (arith, ltb-false many 7 e, few) in subst (λ (n : ℕ). x ≤ get_or xs (k + n) 0) q among.here

      none : (j : ℕ) → j < k + many → get_or xs j 0 < x
      none j l = by (ltb j k) refl
        where
          by : (t : Bool) → ltb j k ≡ t → get_or xs j 0 < x
          by true e = among.none j (ltb-true j k e)
          by false e =
              let q : k + (j - k) ≡ j = add-sub_of_le (ltb-false j k e) in
              rw q at (rw (in-seven (j - k) (omega (arith, few))) at (p.before (j - k) (omega arith)))

  pub first-in-row : {r : Row} {n : ℕ} → IsRow xs k r → n ≡ below x (take 7 (entries_of r)) → FirstAt xs x (k + n)
  first-in-row {r} is e = found _ (subst⁻¹ (Parted x (take 7 (row_from xs k))) (e ∙ ap (λ (ns : List ℕ). below x (take 7 ns)) is.entries) (parted x _ seven-ordered))
