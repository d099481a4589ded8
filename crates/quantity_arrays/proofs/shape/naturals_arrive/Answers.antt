-- Each element of the part is a number of 32 bits, or one is found that is none.
use Prim.Native.Nat.{ℕ, ◌+◌, ◌-◌, ◌≤◌, ◌<◌}
use mathlib.Core.Bool.{Bool, true, false}
use mathlib.Core.List.{List}
use lib.IntN.{pos}
use lib.ListN.{length, get_or}
use mathlib.Core.Path.{◌≡◌}
use native.Mathlib.Omega.{arith}
use borrow.Author.Rules.{rules}
use Rattle.std.specs.Bool.{MatchBool}
use Rattle.std.specs.List.{between, AllWithin, HoldsAt}
use Rattle.std.proofs.lemmas.Iterator.{cases_from_all, YieldsList-from_slice}
use Rattle.std.proofs.lemmas.List.Edits.{length-between, get_or-between}
use Rattle.ground.specs.Answers.{Decides}
use Rattle.code_arrays.specs.QuantityNumbers.{Natural32}
use Rattle.quantity_arrays.proofs.shape.naturals_arrive.Goals as goal

-- what a test of each element of a part decides
decides-between : {X : Type 0} (P : X → Type 0) (l : List X) (d : X) (from to : ℕ) → to ≤ length l → (r : Bool)
    → MatchBool r (AllWithin P (between from to l) 0 (length (between from to l))) ((k : ℕ) × (k < length (between from to l)) × HoldsAt (λ x. P x → ⊥) (between from to l) k)
    → Decides r ((i : ℕ) → from ≤ i → i < to → P (get_or l i d))
decides-between P l d from to room true h =
    λ i a b.
    let e : from + (i - from) ≡ i = omega arith in
    let w : length (between from to l) ≡ to - from = length-between l from to room in
    rw e at (rw (get_or-between l from to (i - from) d (omega arith)) at (h (i - from) d (omega arith) (omega arith)))
decides-between P l d from to room false h =
    λ p.
    let w : length (between from to l) ≡ to - from = length-between l from to room in
    let k = h.0 in
    let lt : k < length (between from to l) = h.1 in
    h.2 d (rw (get_or-between l from to k d (omega arith)) (p (from + k) (omega arith) (omega arith)))

pub returns : goal.returns
returns c =
    let g = c.args.given.now in
    let h = cases_from_all _ _ c.all.result Natural32 (λ x. Natural32 x → ⊥) c.all.ensures.ran (YieldsList-from_slice (between 5 13 g) (search rules)) (λ x q k. search rules) (λ x q k. search rules) in
    decides-between Natural32 g (pos 0) 5 13 (omega arith) c.all.result h
