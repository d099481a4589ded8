-- Laws of text put into a buffer, and of decimals.
use Rattle.std.proofs.Common.{◌≡◌, ℕ, zero, suc, ◌+◌, ◌/◌, ◌%◌, ◌^◌, ◌<◌, ◌≤◌, Bool, true, false, T, ltb, ◌⊎◌, List, [], ◌∷◌, ◌++◌, length, take, drop, set, ℤ, pos, negsuc, sym, refl, ap, ◌∙◌, subst, inl, inr, ⊎_elim, append_assoc, add-zero, add_assoc, add-suc, div-lt_iff_lt-mul, pow-suc, add-one, arith, length-append, length-take-le, take_at, drop_at, w64, SFits, ltb-false, ltb-true, le-ltb, lt-ltb}
use lib.Seq.{sets, length-sets, sets-eq}
use Rattle.ground.specs.Signs.{parts_of}
use Rattle.ground.specs.declared.signs.Parts.{Parts}
use Rattle.ground.proofs.ListLaws.{sets-append}
use Rattle.text.specs.Text.{decimal_in, decimal, pair, four, eight, signed_decimal, Puts}

-- put, and then put after it
pub then : {x y z t u : List ℕ} {i j k : ℕ} → Puts x i t y j → Puts y j u z k → Puts x i (t ++ u) z k
then {x} {y} {z} {t} {u} {i} p q =
    record {
      content = rw (q.content, p.content, p.place) (sets-append x i t u);
      place = rw (q.place, p.place, length-append) (add_assoc _ _ _);
    }

-- one octet put
pub one : (x : List ℕ) (i b : ℕ) → Puts x i (b ∷ []) (set x i b) (i + 1)
one x i b = record { content = refl; place = refl }

-- octets set at places counted from i
abbrev pub stored : List ℕ → ℕ → ℕ → List ℕ → List ℕ
stored x i k [] = x
stored x i k (b ∷ s) = stored (set x (i + k) b) i (suc k) s

stored-sets : (x : List ℕ) (i k : ℕ) (s : List ℕ) → stored x i k s ≡ sets x (i + k) s
stored-sets x i k [] = refl
stored-sets x i k (b ∷ s) = rw (stored-sets (set x (i + k) b) i (suc k) s, add-suc)

-- one octet put, and others after it
pub row : (x : List ℕ) (i b : ℕ) (s : List ℕ) → Puts x i (b ∷ s) (stored (set x i b) i 1 s) (i + suc (length s))
row x i b s = record { content = stored-sets (set x i b) i 1 s ∙ rw add-one; place = refl }

-- nothing put
pub none : {x : List ℕ} {i : ℕ} → Puts x i [] x i
none {x} {i} = record { content = refl; place = sym (add-zero i) }

-- a buffer keeps its length
pub kept : {x y t : List ℕ} {i j : ℕ} → Puts x i t y j → length y ≡ length x
kept {x} {y} {t} {i} p = ap length p.content ∙ length-sets x i t

split_by : (a b : ℕ) (t : Bool) → ltb a b ≡ t → (a < b) ⊎ (b ≤ a)
split_by a b true e = inl (ltb-true a b e)
split_by a b false e = inr (ltb-false a b e)

pub split : (a b : ℕ) → (a < b) ⊎ (b ≤ a)
split a b = split_by a b (ltb a b) refl

-- as many digits as there is room for, if that is enough
decimal-room : (j k n : ℕ) → n < j → n < k → decimal_in j n ≡ decimal_in k n
unfolding decimal_in
decimal-room zero k n a b = absurd (omega arith)
decimal-room (suc j) zero n a b = absurd (omega arith)
decimal-room (suc j) (suc k) n a b =
    ⊎_elim (λ (h : n < 10). simp (lt-ltb _ _ h))
    (λ (h : 10 ≤ n). simp (le-ltb _ _ h) (rw (decimal-room j k (n / 10) (omega arith) (omega arith))))
    (split n 10)

pub decimal-small : {n : ℕ} → n < 10 → decimal n ≡ (48 + n) ∷ []
unfolding decimal decimal_in
decimal-small h = simp (lt-ltb _ _ h)

pub decimal-more : {n : ℕ} → 10 ≤ n → decimal n ≡ decimal (n / 10) ++ ((48 + n % 10) ∷ [])
unfolding decimal decimal_in
decimal-more {n} h = simp (le-ltb _ _ h) (rw (decimal-room n (suc (n / 10)) (n / 10) (omega arith) (omega arith)))

-- the same by two digits
pub decimal-pair : {n : ℕ} → 10 ≤ n → n < 100 → decimal n ≡ pair n
decimal-pair {n} h l = decimal-more h ∙ ap (λ (t : List ℕ). t ++ ((48 + n % 10) ∷ [])) (decimal-small (omega arith))

pub decimal-pairs : {n : ℕ} → 100 ≤ n → decimal n ≡ decimal (n / 100) ++ pair (n % 100)
decimal-pairs {n} h =
    let a : n / 10 / 10 ≡ n / 100 = omega arith in
    let b : n / 10 % 10 ≡ n % 100 / 10 = omega arith in
    let c : n % 10 ≡ n % 100 % 10 = omega arith in
    decimal-more (omega arith)
    ∙ ap (λ (t : List ℕ). t ++ ((48 + n % 10) ∷ [])) (decimal-more (omega arith))
    ∙ append_assoc (decimal (n / 10 / 10)) ((48 + n / 10 % 10) ∷ []) ((48 + n % 10) ∷ [])
    ∙ (λ i. decimal (a i) ++ ((48 + b i) ∷ (48 + c i) ∷ []))

-- three digits, four digits, by four digits and by eight
pub decimal-three : {n : ℕ} → 100 ≤ n → n < 1000 → decimal n ≡ (48 + n / 100) ∷ pair (n % 100)
decimal-three {n} h l = decimal-pairs h ∙ ap (λ (t : List ℕ). t ++ pair (n % 100)) (decimal-small (omega arith))

pub decimal-four : {n : ℕ} → 1000 ≤ n → n < 10000 → decimal n ≡ four n
decimal-four {n} h l = decimal-pairs (omega arith) ∙ ap (λ (t : List ℕ). t ++ pair (n % 100)) (decimal-pair (omega arith) (omega arith))

pub decimal-fours : {n : ℕ} → 10000 ≤ n → decimal n ≡ decimal (n / 10000) ++ four (n % 10000)
decimal-fours {n} h =
    let a : n / 100 / 100 ≡ n / 10000 = omega arith in
    let b : n / 100 % 100 ≡ n % 10000 / 100 = omega arith in
    let c : n % 100 ≡ n % 10000 % 100 = omega arith in
    decimal-pairs (omega arith)
    ∙ ap (λ (t : List ℕ). t ++ pair (n % 100)) (decimal-pairs (omega arith))
    ∙ append_assoc (decimal (n / 100 / 100)) (pair (n / 100 % 100)) (pair (n % 100))
    ∙ (λ i. decimal (a i) ++ (pair (b i) ++ pair (c i)))

pub decimal-eights : {n : ℕ} → 100000000 ≤ n → decimal n ≡ decimal (n / 100000000) ++ eight (n % 100000000)
decimal-eights {n} h =
    let a : n / 10000 / 10000 ≡ n / 100000000 = omega arith in
    let b : n / 10000 % 10000 ≡ n % 100000000 / 10000 = omega arith in
    let c : n % 10000 ≡ n % 100000000 % 10000 = omega arith in
    decimal-fours (omega arith)
    ∙ ap (λ (t : List ℕ). t ++ four (n % 10000)) (decimal-fours (omega arith))
    ∙ append_assoc (decimal (n / 10000 / 10000)) (four (n / 10000 % 10000)) (four (n % 10000))
    ∙ (λ i. decimal (a i) ++ (four (b i) ++ four (c i)))

-- the lengths of these
pub fours-length : {n : ℕ} → 10000 ≤ n → length (decimal n) ≡ length (decimal (n / 10000)) + 4
fours-length {n} h = ap length (decimal-fours h) ∙ length-append (decimal (n / 10000)) (four (n % 10000))

pub eights-length : {n : ℕ} → 100000000 ≤ n → length (decimal n) ≡ length (decimal (n / 100000000)) + 8
eights-length {n} h = ap length (decimal-eights h) ∙ length-append (decimal (n / 100000000)) (eight (n % 100000000))

-- n has at most k digits where it is below 10 ^ k
pub decimal-length : (k n : ℕ) → n < 10 ^ suc k → length (decimal n) ≤ suc k
decimal-length zero n h = rw (decimal-small {n = n} (omega arith)) (omega arith)
decimal-length (suc k) n h =
    ⊎_elim (λ (l : n < 10). rw (decimal-small l) (omega arith))
    (λ (l : 10 ≤ n).
    let m : length (decimal (n / 10)) ≤ suc k = decimal-length k (n / 10) ((div-lt_iff_lt-mul (omega arith)).1 (rw pow-suc at h)) in
    rw (decimal-more l, length-append) (omega arith))
    (split n 10)

-- the text stands where it was put, after what stood before it
pub text-so-far : {x y t : List ℕ} {i j : ℕ} → Puts x i t y j → j ≤ length x → take j y ≡ take i x ++ t
text-so-far {x} {y} {t} {i} {j} p h =
    let e : i + length t ≤ length x = omega (arith, p.place) in
    let l : length (take i x ++ t) ≡ j = length-append (take i x) t ∙ omega (arith, length-take-le i x (omega arith), p.place) in
    rw (p.content, sets-eq t x i e) (take_at (take i x ++ t) (drop (i + length t) x) j l)

-- what follows it is as it was
pub text-after : {x y t : List ℕ} {i j : ℕ} → Puts x i t y j → j ≤ length x → drop j y ≡ drop j x
text-after {x} {y} {t} {i} {j} p h =
    let e : i + length t ≤ length x = omega (arith, p.place) in
    let l : length (take i x ++ t) ≡ j = length-append (take i x) t ∙ omega (arith, length-take-le i x (omega arith), p.place) in
    rw (p.content, sets-eq t x i e, drop_at (take i x ++ t) (drop (i + length t) x) j l, p.place)

-- a signed number's text, by its sign and its size
pub minus-text : (x : ℤ) (p : Parts) → p ≡ parts_of x → p.negative ≡ true → signed_decimal x ≡ 45 ∷ decimal p.size
unfolding signed_decimal
minus-text (pos n) p e t = absurd (subst T (sym t ∙ ap (λ (q : Parts). q.negative) e) tt)
minus-text (negsuc n) p e t = rw e

pub plus-text : (x : ℤ) (p : Parts) → p ≡ parts_of x → p.negative ≡ false → signed_decimal x ≡ decimal p.size
unfolding signed_decimal
plus-text (pos n) p e t = rw e
plus-text (negsuc n) p e t = absurd (subst T (ap (λ (q : Parts). q.negative) (sym e) ∙ t) tt)

-- no number of 64 bits takes more than 20 octets
pub decimal-most : {n : ℕ} → n < 2 ^ 64 → length (decimal n) ≤ 20
decimal-most {n} h = decimal-length 19 n (omega arith)

pub signed-most : (x : ℤ) → SFits w64 x → length (signed_decimal x) ≤ 20
unfolding signed_decimal
signed-most (pos n) f = decimal-most (omega (arith, f.sfits))
signed-most (negsuc n) f = omega (arith, decimal-length 18 (suc n) (omega (arith, f.sfits)))
