-- What a read leaves, and reads in a row: what was held and what was read is what was taken and what is held.
use Rattle.std.proofs.Common.{◌≡◌, ℕ, ◌+◌, ◌-◌, ◌≤◌, Bool, true, false, T, List, [], ◌++◌, length, take, drop, sym, refl, ap, ◌∙◌, subst, append_assoc, append-nil, arith, length-drop, length-take-le, take-append-drop, drop-drop, take-add, Ok}
use borrow.Rule.Slice.PartMut.{put_mid, same_len_mid, take_put}
use Rattle.streaming.specs.declared.source.Source.{Source}
use Rattle.streaming.specs.Sources.{unread_yet, octets_from, ReadBehind, ReadMore, Goes, here, takes, reads}

-- ---- one read

-- the buffer has at least so many octets; they are as they were, and it is as long
pub record SameFront (kept : ℕ) (before b : List ℕ) : Type 0 where
  pub enough : kept ≤ length b
  pub front : take kept b ≡ take kept before
  pub size : length b ≡ length before

-- what is lent from `kept` on comes back as v, with n octets read
pub some_read : {E : Type 0} {kept : ℕ} {before : List ℕ} (b v : List ℕ) (n : ℕ) → SameFront kept before b → length v ≡ length (take (length b - kept) (drop kept b)) → n ≤ length v
    → ReadBehind {E = E} kept before (put_mid kept (length b - kept) b v) (Ok n)
some_read {kept = kept} b v n s whole h =
    let size : length (put_mid kept (length b - kept) b v) ≡ length b = same_len_mid kept (length b - kept) b v whole in
    record {
      front = take_put kept (length b - kept) b v s.enough ∙ s.front;
      size = size ∙ s.size;
      inside = omega (arith, s.enough, size, length-drop kept b, length-take-le (length b - kept) (drop kept b) (omega (arith, length-drop kept b)));
    }

-- the octets that were held, and the piece behind them
pub piece-behind : {c after : List ℕ} {n : ℕ} {t r : Source} → ReadMore c after n t r → octets_from after 0 r ≡ octets_from c n t ++ drop (t.fill - n) (octets_from after 0 r)
piece-behind {c} {after} {n} {t} {r} m =
    sym (take-append-drop (t.fill - n) (octets_from after 0 r)) ∙ ap (λ (s : List ℕ). s ++ drop (t.fill - n) (octets_from after 0 r)) m.kept

-- a read that does not read has no source to hand back but the one it was given, or a new one: neither will do
pub given-refused : {buf after : List ℕ} {s : Source} → s.over ≡ false → ReadMore buf after 0 s s → ⊥
given-refused on r = omega (arith, r.grown on)

pub new-refused : {buf after : List ℕ} {at : ℕ} {s : Source} → ReadMore buf after at s unread_yet → ⊥
new-refused r = omega (arith, r.grown refl)

-- ---- reads in a row

abbrev over-of : Source → Bool
over-of s = s.over

module _ {b : List ℕ} {at : ℕ} {s : Source} where
  -- the octets from n up to m are taken
  pub take-to : {c : List ℕ} {n : ℕ} {t : Source} {read taken : List ℕ} → Goes b at s c n t read taken → (m : ℕ) → n ≤ m → m ≤ t.fill
      → Goes b at s c m t read (taken ++ take (m - n) (drop n c))
  take-to {c} {n} {t} {read} {taken} g m h i =
      let e : n + (m - n) ≡ m = omega arith in
      subst (λ (k : ℕ). Goes b at s c k t read (taken ++ take (m - n) (drop n c))) e (takes g (m - n) (omega arith))

  -- WHAT WAS HELD AND WHAT WAS READ is what was taken and what is held
  pub goes_parts : {c : List ℕ} {n : ℕ} {t : Source} {read taken : List ℕ} → Goes b at s c n t read taken → octets_from b at s ++ read ≡ taken ++ octets_from c n t
  goes_parts here = append-nil (octets_from b at s)
  goes_parts (takes {c} {n} {t} {read} {taken} g k h) =
      let e : t.fill - n ≡ k + (t.fill - (n + k)) = omega arith in
      let cut : octets_from c n t ≡ take k (drop n c) ++ octets_from c (n + k) t =
      ap (λ (m : ℕ). take m (drop n c)) e ∙ take-add k (t.fill - (n + k)) (drop n c) ∙ ap (λ (l : List ℕ). take k (drop n c) ++ take (t.fill - (n + k)) l) (drop-drop k n c)
      in
      goes_parts g ∙ ap (λ (l : List ℕ). taken ++ l) cut ∙ sym (append_assoc taken (take k (drop n c)) (octets_from c (n + k) t))
  goes_parts (reads {c} {after} {n} {t} {r} {read} {taken} g o m) =
      let piece : List ℕ = drop (t.fill - n) (octets_from after 0 r) in
      sym (append_assoc (octets_from b at s) read piece) ∙ ap (λ (l : List ℕ). l ++ piece) (goes_parts g) ∙ append_assoc taken (octets_from c n t) piece
      ∙ ap (λ (l : List ℕ). taken ++ l) (sym (piece-behind m))

  -- where the input is over nothing more is read
  pub goes_over : {c : List ℕ} {n : ℕ} {t : Source} {read taken : List ℕ} → Goes b at s c n t read taken → s.over ≡ true → (t.over ≡ true) × (read ≡ [])
  goes_over here e = (e, refl)
  goes_over (takes g k h) e = goes_over g e
  goes_over (reads g o m) e = absurd (subst T (sym (goes_over g e).0 ∙ o) tt)

  -- one after the other
  pub goes_then : {c : List ℕ} {n : ℕ} {t : Source} {d : List ℕ} {m : ℕ} {u : Source} {read taken read' taken' : List ℕ} → Goes b at s c n t read taken → Goes c n t d m u read' taken'
      → Goes b at s d m u (read ++ read') (taken ++ taken')
  goes_then {c} {n = n} {t = t} {read = read} {taken = taken} g here =
      subst (λ (l : List ℕ). Goes b at s c n t l (taken ++ [])) (sym (append-nil read)) (subst (λ (l : List ℕ). Goes b at s c n t read l) (sym (append-nil taken)) g)
  goes_then {d = d} {u = u} {read = read} {taken = taken} g (takes {n = p} {read = read'} {taken = taken'} h k i) =
      subst (λ (l : List ℕ). Goes b at s d (p + k) u (read ++ read') l) (append_assoc taken taken' (take k (drop p d))) (takes (goes_then g h) k i)
  goes_then {d = d} {u = u} {read = read} {taken = taken} g (reads {n = p} {t = v} {read = read'} {taken = taken'} h o m) =
      subst (λ (l : List ℕ). Goes b at s d 0 u l (taken ++ taken')) (append_assoc read read' (drop (v.fill - p) (octets_from d 0 u))) (reads (goes_then g h) o m)
