-- One rule for a table of whole parts, over all its places: each is the greatest length that its code covers. antt computes the list, and a
-- table in `src/` is that list, entry by entry.
use mathlib.Core.Path.{◌≡◌, sym, ap, ◌∙◌, subst⁻¹}
use Prim.Native.Nat.{ℕ, zero, suc, ◌+◌, ◌*◌, ◌-◌, ◌^◌, ◌≤◌, ◌<◌}
use native.Mathlib.Nat.{le_of_suc-le-suc, not-suc-le-zero, add-zero, zero-add, add-suc, suc-add, one-le-pow, div-mul-le_self, le-div_iff_mul-le}
use native.Mathlib.Omega.{arith}
use lib.ListN.{get_or}
use Rattle.ground.specs.Sets.{LeastCode, GreatestCovered}
use Rattle.radii.specs.Covering.{Covers}
use Rattle.radii.specs.Rising.{Rising, FirstAt}
use Rattle.radii.specs.Tables.{whole_part, tabulate, whole_parts, entries_in, covers_in}
use Rattle.radii.specs.declared.tables.Table.{Table}
use Rattle.radii.specs.declared.tables.Table.TheVariants.{Radii, Heights}
use Rattle.radii.proofs.CoverLaws.{covers_up, covers-from, covers-none}

nth : (f : ℕ → ℕ) (n i k : ℕ) → k < n → get_or (tabulate f n i) k 0 ≡ f (i + k)
nth f zero i k h = absurd (not-suc-le-zero h)
nth f (suc n) i zero h = ap f (sym (add-zero i))
nth f (suc n) i (suc k) h = nth f n (suc i) k (le_of_suc-le-suc h) ∙ ap f (suc-add i k ∙ sym (add-suc i k))

module _ (scale num den : ℕ) (p : 0 < den) where
  pub is-greatest : (K : ℕ) → K < 128 → GreatestCovered (Covers scale num den) 127 K (whole_part scale num den K)
  is-greatest K h = record {
    code = omega arith;
    covered = record { within = div-mul-le_self (scale * (num ^ K - den ^ K)) (den ^ K) };
    greatest = λ S q. (le-div_iff_mul-le (one-le-pow K den p)).1 q.within;
  }

  -- the rule
  pub entry : (K : ℕ) → K < 128 → GreatestCovered (Covers scale num den) 127 K (get_or (whole_parts scale num den) K 0)
  entry K h = subst⁻¹ (GreatestCovered (Covers scale num den) 127 K) (nth (whole_part scale num den) 128 0 K h ∙ ap (whole_part scale num den) (zero-add K)) (is-greatest K h)

  -- what the search of the table asks, and what it finds
  module _ (g : den ≤ num) where
    pub rising : Rising (whole_parts scale num den)
    rising i j h l =
        let u : get_or (whole_parts scale num den) j 0 < get_or (whole_parts scale num den) i 0 → ⊥ = λ k. covers-none (entry j l) k (covers_up g j h (entry i (omega arith)).covered) in
        omega arith

    pub first-least : (R K : ℕ) → FirstAt (whole_parts scale num den) R K → LeastCode (Covers scale num den) 127 R K
    first-least R K f = record {
      code = omega (arith, f.place);
      covered = covers-from (entry K (omega (arith, f.place))) (rw (add-zero K) at f.here);
      least = λ J l. covers-none (entry J (omega (arith, f.place))) (f.none J l);
    }

    pub none-covers : (R : ℕ) → get_or (whole_parts scale num den) 127 0 < R → Covers scale num den 127 R → ⊥
    none-covers R h = covers-none (entry 127 (omega arith)) h

pub rises : (t : Table) → Rising (entries_in t)
unfolding entries_in
rises Radii = rising 10000 11 10 (omega arith) (omega arith)
rises Heights = rising 45000 41 40 (omega arith) (omega arith)

-- the same of either table
pub entry_in : (t : Table) (K : ℕ) → K < 128 → GreatestCovered (covers_in t) 127 K (get_or (entries_in t) K 0)
unfolding entries_in
entry_in Radii = entry 10000 11 10 (omega arith)
entry_in Heights = entry 45000 41 40 (omega arith)

pub least_in : (t : Table) (R K : ℕ) → FirstAt (entries_in t) R K → LeastCode (covers_in t) 127 R K
unfolding entries_in
least_in Radii = first-least 10000 11 10 (omega arith) (omega arith)
least_in Heights = first-least 45000 41 40 (omega arith) (omega arith)

pub none_in : (t : Table) (R : ℕ) → get_or (entries_in t) 127 0 < R → covers_in t 127 R → ⊥
unfolding entries_in
none_in Radii R h = none-covers 10000 11 10 (omega arith) (omega arith) R h
none_in Heights R h = none-covers 45000 41 40 (omega arith) (omega arith) R h
