-- `spare_zero` is what its name says: each row's bits are the message's own, and each spare bit is zero.
use Prim.Native.Nat.{ℕ, zero, suc, ◌+◌, ◌-◌, ◌*◌, ◌/◌, ◌%◌, ◌^◌, ◌≤◌, ◌<◌}
use mathlib.Core.Path.{◌≡◌, refl, ap, sym, ◌∙◌}
use mathlib.Core.Bool.{Bool, true, false}
use mathlib.Core.List.{List, [], ◌∷◌}
use native.Mathlib.Omega.{arith}
use native.Mathlib.Nat.{mul_assoc, zero-add}
use lib.Dec.{ltb}
use lib.Pow.{high, low, pow-add, pow_pos}
use borrow.Author.Tests.{ltb-true, ltb-false}
use Rattle.octets.specs.Bits.{bit, bits, octets}
use Rattle.octets.proofs.BitLaws.{bits-lt, bits-high, bits-low}
use Rattle.octets.proofs.OctetLaws.{octets-bits}
use Rattle.layout.specs.Layout.{MessageField, Row}
use Rattle.layout.specs.Rows.{All, end_of, length_of, packed, message, spare_zero}
use Rattle.layout.specs.Demands.{InFields}
use Rattle.layout.proofs.RowLaws.{Sorted, Narrow, Holds, stand, unpacked, packed_lt}
use Rattle.layout.proofs.TidyLaws.{Tidy, narrow}
use Rattle.layout.specs.Spare.{InNoRow, Spare}

pub own : (s : List ℕ) (rs : List Row) → All (Narrow (λ r. bits s r.first r.width)) rs
own s [] = tt
own s (r ∷ rs) = (bits-lt s r.first r.width, own s rs)

-- each row's bits are the message's own
pub rows-kept : (rows : List Row) → Tidy rows → (s : List ℕ) → All (Holds (λ r. bits s r.first r.width) (spare_zero rows s)) rows
rows-kept rows tidy s = stand (λ r. bits s r.first r.width) rows tidy.sorted tidy.whole (own s rows)

-- ---- spare bits

-- where so many bits make 0, each of them is 0
last-or-before : (s : List ℕ) (first w k : ℕ) → (bits s first w ≡ 0 → k < first + w → bit s k ≡ 0) → 2 * bits s first w + bit s (first + w) ≡ 0 → k < first + suc w → (b : Bool) → ltb k (first + w) ≡ b → bit s k ≡ 0
last-or-before s first w k before e l true t =
    let m : k < first + w = ltb-true k (first + w) t in
    before (omega arith) m
last-or-before s first w k before e l false t =
    let m : first + w ≤ k = ltb-false k (first + w) t in
    let d : k ≡ first + w = omega arith in
    ap (bit s) d ∙ omega arith

zero_bits : (s : List ℕ) (first w k : ℕ) → first ≤ k → bits s first w ≡ 0 → k < first + w → bit s k ≡ 0
unfolding bits
zero_bits s first zero k h e l = absurd (omega arith)
zero_bits s first (suc w) k h e l = last-or-before s first w k (zero_bits s first w k h) e l (ltb k (first + w)) refl

module _ (number : Row → ℕ) (s : List ℕ) where
  -- the bits between what is so far and a row
  gap : (r : Row) (so_far at : ℕ) → at ≤ r.first → number r < 2 ^ r.width → bits s 0 (r.first + r.width) ≡ so_far * 2 ^ (r.first + r.width - at) + number r → bits s at (r.first - at) ≡ 0
  gap r so_far at o n e =
      let d : r.first + r.width - at ≡ (r.first - at) + r.width = omega arith in
      let m : so_far * 2 ^ (r.first + r.width - at) ≡ so_far * 2 ^ (r.first - at) * 2 ^ r.width = ap (λ (k : ℕ). so_far * 2 ^ k) d ∙ ap (λ (k : ℕ). so_far * k) (pow-add 2 (r.first - at) r.width) ∙ sym (mul_assoc so_far (2 ^ (r.first - at)) (2 ^ r.width)) in
      let front : bits s 0 r.first ≡ so_far * 2 ^ (r.first - at) =
      sym (bits-high s 0 r.first r.width) ∙ ap (λ (k : ℕ). k / 2 ^ r.width) (e ∙ ap (λ (k : ℕ). k + number r) m) ∙ high (so_far * 2 ^ (r.first - at)) r.width n in
      let t : at + (r.first - at) ≡ r.first = omega arith in
      let z : so_far * 2 ^ (r.first - at) ≡ so_far * 2 ^ (r.first - at) + 0 = omega arith in
      ap (λ (k : ℕ). bits s k (r.first - at)) (sym (zero-add at))
      ∙ sym (bits-low s 0 at (r.first - at))
      ∙ ap (λ (k : ℕ). bits s 0 k % 2 ^ (r.first - at)) t
      ∙ ap (λ (k : ℕ). k % 2 ^ (r.first - at)) (front ∙ z)
      ∙ low so_far (r.first - at) (pow_pos (r.first - at))

  in-gap : (rs : List Row) (so_far at k : ℕ) → Sorted at rs → All (Narrow number) rs → bits s 0 (end_of at rs) ≡ packed number so_far at rs → at ≤ k → k < end_of at rs → InNoRow rs k → bit s k ≡ 0
  in-gap [] so_far at k o n e h l p = absurd (omega arith)
  in-gap (r ∷ rs) so_far at k o n e h l p =
      before-or-after (in-gap rs _ (r.first + r.width) k o.1 n.1 e) (ltb k r.first) refl
    where
      before-or-after : (r.first + r.width ≤ k → k < end_of (r.first + r.width) rs → InNoRow rs k → bit s k ≡ 0) → (b : Bool) → ltb k r.first ≡ b → bit s k ≡ 0
      before-or-after after true t =
          let m : k < r.first = ltb-true k r.first t in
          zero_bits s at (r.first - at) k h (gap r so_far at o.0 n.0 (unpacked number s rs _ (r.first + r.width) o.1 n.1 e).0) (omega arith)
      before-or-after after false t = after (p.0 (ltb-false k r.first t)) l p.1

  -- octets of packed numbers have zeros in their spare bits
  pub spare_of : (rows : List Row) (k : ℕ) → Tidy rows → All (Narrow number) rows → s ≡ octets (length_of rows) (packed number 0 0 rows) → Spare rows k → bit s k ≡ 0
  spare_of rows k tidy n e p =
      let v = packed number 0 0 rows in
      let w = tidy.whole in
      let l : v < 2 ^ (8 * length_of rows) = rw w (packed_lt number rows 0 0 tidy.sorted n (omega arith)) in
      in-gap rows 0 0 k tidy.sorted n
      (ap (bits s 0) (sym w) ∙ ap (λ (t : List ℕ). bits t 0 (8 * length_of rows)) e ∙ octets-bits (length_of rows) v l)
      (omega arith) (omega (arith, p.of_octets)) p.in_no_row

-- each spare bit is zero
pub spare-is-zero : (rows : List Row) → Tidy rows → (s : List ℕ) (k : ℕ) → Spare rows k → bit (spare_zero rows s) k ≡ 0
spare-is-zero rows tidy s k = spare_of (λ r. bits s r.first r.width) (spare_zero rows s) rows k tidy (own s rows) refl

-- and so it is in every message that is written
pub message-spare : (rows : List Row) → Tidy rows → (value : MessageField → ℕ) → InFields rows value → (k : ℕ) → Spare rows k → bit (message rows value) k ≡ 0
message-spare rows tidy value h k = spare_of (λ r. value r.field) (message rows value) rows k tidy (narrow rows tidy value h) refl
