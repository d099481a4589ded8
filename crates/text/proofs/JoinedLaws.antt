-- Laws of numbers joined into one, and of digits found there all at once.
use Rattle.std.proofs.Common.{◌≡◌, ℕ, zero, suc, ◌+◌, ◌-◌, ◌*◌, ◌/◌, ◌%◌, ◌<◌, ◌≤◌, List, [], ◌∷◌, ◌++◌, map, length, set, refl, ap, ◌∙◌, mod-eq_of_lt, zero-add, arith}
use native.Mathlib.Nat.{add-mul-mod_self_left, add-mul-div_left, div-eq_of_lt, div-div-eq-div-mul}
use Rattle.text.specs.Text.{pair, four, eight, joined, lanes, pairs, FourPairs, Tens, Digits, Puts}
use Rattle.text.proofs.OutputLaws.{stored, row}

-- the lowest of joined numbers, and the others
lowest : {b x : ℕ} (y : ℕ) → x < b → (x + b * y) % b ≡ x
lowest y h = add-mul-mod_self_left _ _ y ∙ mod-eq_of_lt h

others : {b x : ℕ} (y : ℕ) → x < b → (x + b * y) / b ≡ y
others {b} {x} y h = rw (add-mul-div_left x y {y = b} (omega arith), div-eq_of_lt h) (zero-add y)

-- the lowest of x's numbers
abbrev pub low : ℕ → ℕ → ℕ → List ℕ
low base zero x = []
low base (suc n) x = x % base ∷ low base n (x / base)

-- each is below the base
abbrev pub Below : ℕ → List ℕ → Type 0
Below base [] = Unit
Below base (x ∷ s) = (x < base) × Below base s

low-joined : (base : ℕ) (s t : List ℕ) → Below base s → low base (length s) (joined base (s ++ t)) ≡ s
unfolding joined
low-joined base [] t h = refl
low-joined base (y ∷ s) t h = rw (lowest {b = base} {x = y} _ h.0, others {b = base} {x = y} _ h.0, low-joined base s t h.1)

-- the hundreds of two fours of digits, found at once
pub hundredth : {x : ℕ} → x < 10000 → x * 5243 / 524288 ≡ x / 100
hundredth h = omega arith

abbrev halves : ℕ → ℕ
halves n = n / 10000 + 4294967296 * (n - 10000 * (n / 10000))

module _ {n : ℕ} (h : n < 100000000) where
  pub upper-hundreds : halves n * 5243 % 4294967296 / 524288 ≡ n / 10000 / 100
  upper-hundreds =
      let e : halves n * 5243 % 4294967296 ≡ n / 10000 * 5243 = omega arith in
      rw e (hundredth (omega arith))

  pub lower-hundreds : halves n * 5243 / 4294967296 / 524288 ≡ n % 10000 / 100
  lower-hundreds =
      let e : halves n * 5243 / 4294967296 ≡ n % 10000 * 5243 = omega arith in
      rw e (hundredth (omega arith))

  pub hundreds-less : 6553599 * (n / 10000 / 100 + 4294967296 * (n % 10000 / 100)) ≤ 65536 * halves n
  hundreds-less =
      let e : n - 10000 * (n / 10000) ≡ n % 10000 = omega arith in
      rw e (less (n / 10000) (n % 10000))
    where
      less : (u l : ℕ) → 6553599 * (u / 100 + 4294967296 * (l / 100)) ≤ 65536 * (u + 4294967296 * l)
      less u l = omega arith

  pub pairs-found : 65536 * halves n - 6553599 * (n / 10000 / 100 + 4294967296 * (n % 10000 / 100)) ≡ pairs n
  unfolding joined
  pairs-found = omega arith

  pub four-pairs : {x : ℕ} → x ≡ pairs n → FourPairs x
  four-pairs e = record { first = n / 10000 / 100; second = n / 10000 % 100; third = n % 10000 / 100; fourth = n % 10000 % 100; first_small = omega arith; second_small = omega arith; third_small = omega arith; fourth_small = omega arith; side_by_side = e }

-- those of one four
module _ {n : ℕ} (h : n < 10000) where
  pub two-pairs-found : 65536 * n - 6553599 * (n * 5243 / 524288) ≡ lanes (n / 100) (n % 100) 0 0
  unfolding joined
  two-pairs-found = rw (hundredth h) (omega arith)

  pub two-pairs : {x : ℕ} → x ≡ lanes (n / 100) (n % 100) 0 0 → FourPairs x
  two-pairs e = record { first = n / 100; second = n % 100; third = 0; fourth = 0; first_small = omega arith; second_small = omega arith; third_small = omega arith; fourth_small = omega arith; side_by_side = e }

-- the tens of four pairs of digits, found at once
tenth : {x : ℕ} → x < 100 → x * 103 / 1024 ≡ x / 10
tenth h = omega arith

-- tens and units apart
in-octets : (a b c d : ℕ) → 3472328296227680304 + 256 * lanes a b c d - 2559 * lanes (a / 10) (b / 10) (c / 10) (d / 10) ≡ joined 256 (pair a ++ pair b ++ pair c ++ pair d)
unfolding joined
in-octets a b c d = omega arith

module _ {x : ℕ} (p : FourPairs x) where
  pub pairs-less : x < 100 * 281474976710656
  unfolding joined
  pairs-less = omega (arith, p.first_small, p.second_small, p.third_small, p.fourth_small, p.side_by_side)

  pub tens-less : {r : ℕ} → Tens x r → 2559 * r ≤ 256 * x
  unfolding joined
  tens-less t = omega (arith, t p, p.side_by_side)

  pub digits-found : {r : ℕ} → Tens x r → 3472328296227680304 + 256 * x - 2559 * r ≡ joined 256 (pair p.first ++ pair p.second ++ pair p.third ++ pair p.fourth)
  digits-found t = rw (t p, p.side_by_side) (in-octets p.first p.second p.third p.fourth)

  pub tens-found : x * 103 % 65536 / 1024
      + 65536 * (x * 103 / 65536 % 65536 / 1024)
      + 4294967296 * (x * 103 / 4294967296 % 65536 / 1024)
      + 281474976710656 * (x * 103 / 281474976710656 % 65536 / 1024)
      ≡ lanes (p.first / 10) (p.second / 10) (p.third / 10) (p.fourth / 10)
  unfolding joined
  tens-found =
      let s : List ℕ = p.first * 103 ∷ p.second * 103 ∷ p.third * 103 ∷ p.fourth * 103 ∷ [] in
      let e : x * 103 ≡ joined 65536 (s ++ []) = omega (arith, p.side_by_side) in
      let b : Below 65536 s = omega (arith, p.first_small, p.second_small, p.third_small, p.fourth_small) in
      let f : low 65536 4 (x * 103) ≡ s = rw e (low-joined 65536 s [] b) in
      in_a_row _ _ _ _
      ∙ ap (λ (s : List ℕ). joined 65536 (map (λ (m : ℕ). m / 1024) s)) (simp div-div-eq-div-mul at f)
      ∙ rw (tenth p.first_small, tenth p.second_small, tenth p.third_small, tenth p.fourth_small)
    where
      in_a_row : (p q r s : ℕ) → p + 65536 * q + 4294967296 * r + 281474976710656 * s ≡ lanes p q r s
      in_a_row p q r s = omega arith

-- the octets of a number, set one after the other
pub octets-put : (x : List ℕ) (i t : ℕ) {s : List ℕ} → low 256 8 t ≡ s
    → Puts x i s
    (stored (set x i (t % 256)) i 1
    (t / 256 % 256 ∷ t / 65536 % 256 ∷ t / 16777216 % 256 ∷ t / 4294967296 % 256
    ∷ t / 1099511627776 % 256 ∷ t / 281474976710656 % 256 ∷ t / 72057594037927936 % 256 ∷ []))
    (i + 8)
octets-put x i t e = rw (← e) (simp div-div-eq-div-mul (row x i (t % 256) _))

pub four-octets-put : (x : List ℕ) (i t : ℕ) {s : List ℕ} → low 256 4 t ≡ s
    → Puts x i s (stored (set x i (t % 256)) i 1 (t / 256 % 256 ∷ t / 65536 % 256 ∷ t / 16777216 % 256 ∷ [])) (i + 4)
four-octets-put x i t e = rw (← e) (simp div-div-eq-div-mul (row x i (t % 256) _))

-- they are the digits
pub eight-low : {n x r : ℕ} → n < 100000000 → x ≡ pairs n → Digits x r → low 256 8 r ≡ eight n
unfolding four-pairs
eight-low {n} h e d = rw (d (four-pairs h e)) (low-joined 256 (eight n) [] (omega arith))

pub four_low : {n x r : ℕ} → n < 10000 → x ≡ lanes (n / 100) (n % 100) 0 0 → Digits x r → low 256 4 r ≡ four n
unfolding two-pairs
four_low {n} h e d = rw (d (two-pairs h e)) (low-joined 256 (four n) (four 0) (omega arith))
