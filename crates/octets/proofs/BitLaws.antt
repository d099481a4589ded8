-- Laws of `bits`: a number of bits is joined from two parts, is below a power of two, and an octet is its eight bits.
use Prim.Native.Nat.{ℕ, zero, suc, ◌+◌, ◌-◌, ◌*◌, ◌/◌, ◌%◌, ◌^◌, ◌≤◌, ◌<◌}
use mathlib.Core.Path.{◌≡◌, ap, ◌∙◌}
use mathlib.Core.List.{List}
use lib.ListN.{get_or}
use lib.Pow.{high, low, shr-shr}
use native.Mathlib.Omega.{arith}
use native.Mathlib.Nat.{add-zero, add-suc, add_assoc, mul-one, mul_assoc, pow-suc, pow-zero}
use Rattle.octets.specs.Bits.{bit, bits}

bit-lt : (s : List ℕ) (k : ℕ) → bit s k < 2
unfolding bit
bit-lt s k = omega arith

module _ (s : List ℕ) where
  pub bits-lt : (first width : ℕ) → bits s first width < 2 ^ width
  unfolding bits
  bits-lt first zero = omega arith
  bits-lt first (suc width) = rw pow-suc (omega (arith, bits-lt first width, bit-lt s (first + width)))

  -- the first w and the next v bits
  pub bits-join : (first w v : ℕ) → bits s first (w + v) ≡ bits s first w * 2 ^ v + bits s (first + w) v
  unfolding bits
  bits-join first w zero = rw (add-zero, pow-zero, mul-one, add-zero)
  bits-join first w (suc v) =
      rw (add-suc, pow-suc, ← mul_assoc)
      (omega (arith, bits-join first w v, ap (bit s) (add_assoc first w v)))

  bit_at : (i j : ℕ) → j < 8 → bit s (8 * i + j) ≡ get_or s i 0 / 2 ^ (7 - j) % 2
  unfolding bit
  bit_at i j h =
      let d : (8 * i + j) / 8 ≡ i = omega arith in
      let m : (8 * i + j) % 8 ≡ j = omega arith in
      rw (d, m)

  -- the first w bits of an octet, and all eight
  octet-front : (i w : ℕ) → w ≤ 8 → get_or s i 0 < 256 → bits s (8 * i) w ≡ get_or s i 0 / 2 ^ (8 - w)
  unfolding bits
  octet-front i zero h l = omega arith
  octet-front i (suc w) h l =
      let e : 8 - w ≡ (7 - w) + 1 = omega arith in
      let e' : 8 - suc w ≡ 7 - w = omega arith in
      let front : bits s (8 * i) w ≡ get_or s i 0 / 2 ^ (7 - w) / 2 = octet-front i w (omega arith) l ∙ rw (e, ← shr-shr) in
      rw e' (omega (arith, bit_at i w (omega arith)))

  pub bits-octet : (i : ℕ) → get_or s i 0 < 256 → bits s (8 * i) 8 ≡ get_or s i 0
  bits-octet i h = octet-front i 8 (omega arith) h ∙ omega arith

  pub bits-high : (first w v : ℕ) → bits s first (w + v) / 2 ^ v ≡ bits s first w
  bits-high first w v = ap (λ (n : ℕ). n / 2 ^ v) (bits-join first w v) ∙ high _ v (bits-lt (first + w) v)

  pub bits-low : (first w v : ℕ) → bits s first (w + v) % 2 ^ v ≡ bits s (first + w) v
  bits-low first w v = ap (λ (n : ℕ). n % 2 ^ v) (bits-join first w v) ∙ low _ v (bits-lt (first + w) v)

  -- the octet after k others, as the code names it
  next-octet : (i k : ℕ) → bits s (8 * i + 8 * k) 8 ≡ bits s (8 * (i + k)) 8
  next-octet i k = ap (λ (n : ℕ). bits s n 8) (omega arith)

  pub bits-two : (i : ℕ) → bits s (8 * i) 16 ≡ bits s (8 * i) 8 * 256 + bits s (8 * (i + 1)) 8
  bits-two i = omega (arith, bits-join (8 * i) 8 8, next-octet i 1)

  pub bits-three : (i : ℕ) → bits s (8 * i) 24 ≡ bits s (8 * i) 8 * 65536 + bits s (8 * (i + 1)) 8 * 256 + bits s (8 * (i + 2)) 8
  bits-three i = omega (arith, bits-join (8 * i) 16 8, bits-join (8 * i) 8 8, next-octet i 1, next-octet i 2)
