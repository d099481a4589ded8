-- THERE IS JUST ONE MESSAGE of rows and numbers: `message` is one, and two are the same, since every bit is a row's or spare.
use Prim.Native.Nat.{ℕ, zero, suc, ◌+◌, ◌-◌, ◌*◌, ◌/◌, ◌%◌, ◌^◌, ◌≤◌, ◌<◌}
use mathlib.Core.Path.{◌≡◌, refl, ap, sym, ◌∙◌}
use mathlib.Core.List.{List, [], ◌∷◌}
use native.Mathlib.Omega.{arith}
use native.Mathlib.Nat.{zero-add}
use lib.ListN.{get_or}
use lib.Seq.{ext_get_or}
use Rattle.octets.specs.Bits.{bit, bits, octets}
use Rattle.octets.proofs.BitLaws.{bits-join, bits-octet, bits-high, bits-low}
use Rattle.octets.proofs.OctetLaws.{length-octets, octets-small}
use Rattle.layout.specs.Layout.{MessageField, Row}
use Rattle.layout.specs.Rows.{All, end_of, length_of, packed, message, spare_zero}
use Rattle.layout.specs.Demands.{InFields}
use Rattle.layout.specs.Spare.{InNoRow}
use Rattle.layout.specs.Messages.{in_row, IsMessage, Lengths}
use Rattle.layout.proofs.RowLaws.{Sorted, Narrow, stand}
use Rattle.layout.proofs.TidyLaws.{Tidy, narrow}
use Rattle.layout.proofs.SpareLaws.{own, spare_of}
use Rattle.layout.proofs.PolygonLaws.{polygon-length}

-- ---- one there is

is-message : (rows : List Row) → Tidy rows → (number : Row → ℕ) → All (Narrow number) rows → IsMessage rows number (octets (length_of rows) (packed number 0 0 rows))
is-message rows tidy number n = record {
  octets = octets-small (length_of rows) (packed number 0 0 rows);
  long = length-octets (length_of rows) (packed number 0 0 rows);
  each = stand number rows tidy.sorted tidy.whole n;
  spare = λ k. spare_of number (octets (length_of rows) (packed number 0 0 rows)) rows k tidy n refl;
}

pub message-is : (rows : List Row) → Tidy rows → (value : MessageField → ℕ) → InFields rows value → IsMessage rows (λ r. value r.field) (message rows value)
message-is rows tidy value h = is-message rows tidy (λ r. value r.field) (narrow rows tidy value h)

-- a message with its spare bits zero has the rows' own bits
pub spare-zero-is : (rows : List Row) → Tidy rows → (s : List ℕ) → IsMessage rows (in_row s) (spare_zero rows s)
spare-zero-is rows tidy s = is-message rows tidy (in_row s) (own s rows)

-- ---- no other

module _ (s : List ℕ) where
  no-bit : (first w : ℕ) → ((k : ℕ) → first ≤ k → k < first + w → bit s k ≡ 0) → bits s first w ≡ 0
  unfolding bits
  no-bit first zero h = refl
  no-bit first (suc w) h = omega (arith, no-bit first w (λ k a b. h k a (omega arith)), h (first + w) (omega arith) (omega arith))

  -- a bit before all rows is in none
  before-rows : (rs : List Row) (at k : ℕ) → Sorted at rs → k < at → InNoRow rs k
  before-rows [] at k o h = tt
  before-rows (r ∷ rs) at k o h = (λ l. absurd (omega (arith, o.0)), before-rows rs (r.first + r.width) k o.1 (omega (arith, o.0)))

  module _ (number : Row → ℕ) where
    -- the bits up to a row's end, where those between the rows are zero
    one-row : (r : Row) (at : ℕ) → at ≤ r.first → in_row s r ≡ number r → bits s at (r.first - at) ≡ 0 → bits s 0 (r.first + r.width) ≡ bits s 0 at * 2 ^ (r.first + r.width - at) + number r
    one-row r at o e z =
        let g = r.first - at in
        let a : r.first + r.width ≡ at + (r.first + r.width - at) = omega arith in
        let b : r.first + r.width - at ≡ g + r.width = omega arith in
        let d : at + g ≡ r.first = omega arith in
        let last : bits s at (r.first + r.width - at) ≡ number r =
        ap (bits s at) b ∙ bits-join s at g r.width ∙ ap (λ (k : ℕ). k * 2 ^ r.width + bits s (at + g) r.width) z ∙ omega (arith, ap (λ (k : ℕ). bits s k r.width) d, e) in
        ap (bits s 0) a ∙ bits-join s 0 at (r.first + r.width - at) ∙ ap (λ (k : ℕ). bits s 0 at * 2 ^ (r.first + r.width - at) + bits s k (r.first + r.width - at)) (zero-add at) ∙ ap (λ (k : ℕ). bits s 0 at * 2 ^ (r.first + r.width - at) + k) last

    repacked : (rs : List Row) (at : ℕ) → Sorted at rs → All (λ r. in_row s r ≡ number r) rs → ((k : ℕ) → at ≤ k → k < end_of at rs → InNoRow rs k → bit s k ≡ 0) → bits s 0 (end_of at rs) ≡ packed number (bits s 0 at) at rs
    repacked [] at o e z = refl
    repacked (r ∷ rs) at o e z =
        let end = r.first + r.width in
        let gap : bits s at (r.first - at) ≡ 0 = no-bit at (r.first - at) (λ k a b. z k a (omega (arith, ends rs end o.1, o.0)) (λ l. absurd (omega (arith, o.0)), before-rows rs end k o.1 (omega (arith, o.0)))) in
        repacked rs end o.1 e.1 (λ k a b p. z k (omega (arith, o.0)) b (λ l. a, p))
        ∙ ap (λ (k : ℕ). packed number k end rs) (one-row r at o.0 e.0 gap)
      where
        -- rows in their order end no sooner than they start
        ends : (rs : List Row) (at : ℕ) → Sorted at rs → at ≤ end_of at rs
        ends [] at o = omega arith
        ends (r ∷ rs) at o = omega (arith, o.0, ends rs (r.first + r.width) o.1)

-- octets are told by all their bits
octet-of : (s : List ℕ) (n i : ℕ) → i < n → get_or s i 0 < 256 → get_or s i 0 ≡ bits s 0 (8 * n) / 2 ^ (8 * n - 8 * i - 8) % 2 ^ 8
octet-of s n i h small =
    let a : 8 * n ≡ (8 * i + 8) + (8 * n - 8 * i - 8) = omega arith in
    sym (bits-octet s i small)
    ∙ ap (λ (k : ℕ). bits s k 8) (sym (zero-add (8 * i)))
    ∙ sym (bits-low s 0 (8 * i) 8)
    ∙ ap (λ (k : ℕ). k % 2 ^ 8) (sym (bits-high s 0 (8 * i + 8) (8 * n - 8 * i - 8)))
    ∙ ap (λ (k : ℕ). bits s 0 k / 2 ^ (8 * n - 8 * i - 8) % 2 ^ 8) (sym a)

pub message-one : (rows : List Row) → Tidy rows → (number : Row → ℕ) (s t : List ℕ) → IsMessage rows number s → IsMessage rows number t → s ≡ t
unfolding bits
message-one rows tidy number s t a b =
    let n = length_of rows in
    let same : bits s 0 (8 * n) ≡ bits t 0 (8 * n) = rw tidy.whole (packs s a ∙ sym (packs t b)) in
    ext_get_or 0 s t (a.long ∙ sym b.long)
    (λ i h. octet-of s n i (omega (arith, a.long)) (a.octets i) ∙ ap (λ (k : ℕ). k / 2 ^ (8 * n - 8 * i - 8) % 2 ^ 8) same ∙ sym (octet-of t n i (omega (arith, a.long)) (b.octets i)))
  where
    packs : (u : List ℕ) → IsMessage rows number u → bits u 0 (end_of 0 rows) ≡ packed number 0 0 rows
    packs u m = repacked u number rows 0 tidy.sorted m.each (λ k h l p. m.spare k (record { of_octets = omega (arith, tidy.whole); in_no_row = p }))

-- ---- the lengths

pub lengths : Lengths
lengths = record { fixed = refl; polygon = polygon-length }
