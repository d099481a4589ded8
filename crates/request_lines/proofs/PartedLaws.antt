-- Laws of the fields that are read so far.
use mathlib.Core.Path.{◌≡◌}
use mathlib.Core.List.{List}
use Prim.Native.Nat.{ℕ, ◌+◌, ◌<◌, ◌≤◌}
use native.Mathlib.Omega.{arith}
use borrow.Author.Count.{below_more}
use lib.ListN.{length, get_or, set, length-set}
use lib.Seq.{get_or-set_same, get_or-set_other}
use Rattle.text.specs.LineFields.{fields_of, field_at, Starts}
use Rattle.text.proofs.LineFieldLaws.{last, not_last, start-next, stands}
use Rattle.request_lines.specs.declared.entries.Entry.{Entry}
use Rattle.request_lines.specs.declared.entries.Entry.TheVariants.{Neither}
use Rattle.request_lines.specs.Entries.{EntryHolds, EntryAt, Eight}

abbrev HeldAt : List ℕ → List Entry → ℕ → Type 0
HeldAt line held number = EntryHolds (field_at line number) (get_or held number Neither)

-- the fields before that number are held, and the field of that number starts at `from`
pub record Parted (line : List ℕ) (held : List Entry) (number from : ℕ) : Type 0 where
  pub room : length held ≡ 8
  pub starts : Starts line number from
  pub each : (k : ℕ) → k < number → HeldAt line held k

module _ {line : List ℕ} {held : List Entry} {number from : ℕ} {entry : Entry} {end : ℕ} (p : Parted line held number from) (e : EntryAt line from entry end) (l : number < 8) where
  one_more : (k : ℕ) → k < number + 1 → HeldAt line (set held number entry) k
  one_more = below_more (HeldAt line (set held number entry)) number others this
    where
      this : HeldAt line (set held number entry) number
      this = rw (get_or-set_same held number entry Neither (omega (arith, p.room)), ← stands p.starts e.end) e.holds

      others : (k : ℕ) → k < number → HeldAt line (set held number entry) k
      others k h = rw (get_or-set_other held number k entry Neither (λ e. absurd (omega arith))) (p.each k h)

  pub parted-more : end < length line → Parted line (set held number entry) (number + 1) (end + 1)
  parted-more h = record { room = rw length-set p.room; starts = start-next p.starts e.end h; each = one_more }

  pub too_few : number < 7 → end ≡ length line → length (fields_of line) ≡ 8 → ⊥
  too_few h f n = omega (arith, last p.starts e.end (omega arith))

module _ {line : List ℕ} {held : List Entry} {from : ℕ} {entry : Entry} {end : ℕ} (p : Parted line held 7 from) (e : EntryAt line from entry end) where
  pub too_many : end < length line → length (fields_of line) ≡ 8 → ⊥
  too_many h n = omega (arith, not_last p.starts e.end h)

  pub parted-last : length line ≤ end → Eight line (set held 7 entry)
  parted-last h = record { eight = last p.starts e.end h; each = one_more p e (omega arith) }
