-- What is written for the codes of a request is what the choice promises for the request.
use Prim.Native.Nat.{ℕ}
use mathlib.Core.Path.{subst}
use mathlib.Core.List.{List, ◌++◌}
use native.Mathlib.Omega.{arith}
use lib.ListN.{drop}
use Rattle.ground.specs.Answers.{Unless, unmet, met}
use Rattle.layout.specs.declared.shape.Kind.{Kind}
use Rattle.requests.specs.declared.Request.{Request}
use Rattle.requests.specs.declared.codes.Wanted.{Wanted}
use Rattle.requests.specs.Ranges.{RequestInRange, RequestCovered}
use Rattle.requests.specs.Choice.{Refuses, out_of_range, too_uncertain, none_holds, Chosen, refuses, too_short, writes}
use Rattle.requests.specs.Codes.{CodesOf, message_of}
use Rattle.requests.proofs.BestLaws.{message-long, none-hold, best-of-kinds}
use Rattle.requests.proofs.TameLaws.{tame}
use Rattle.choice.specs.Writing.{WritesBest, no_kind, no_room, written}

module _ (q : Request) (taken : Kind → Type 0) (before : List ℕ) where
  pub chosen_of : (w : Wanted) → RequestInRange q → RequestCovered q → CodesOf q w → {n m : ℕ} {after : List ℕ} → WritesBest w taken before n m after → Chosen q taken before n m after
  chosen_of w r c p (no_kind none) = refuses (none_holds r c (none-hold q w p (tame q w p) taken none))
  chosen_of w r c p (no_room {k = k} b l) =
      too_short r c (best-of-kinds q w p (tame q w p) taken k b) (omega (arith, message-long w (tame q w p) k b.able.part))
  chosen_of w r c p (written {k = k} b l) =
      let long = message-long w (tame q w p) k b.able.part in
      subst (λ (n : ℕ). Chosen q taken before 0 n (message_of k w ++ drop n before)) long
      (writes r c (best-of-kinds q w p (tame q w p) taken k b) (omega arith))

  -- 7 and 8
  pub refused-of : (n : ℕ) → Unless (RequestInRange q) 7 (Unless (RequestCovered q) 8 (λ m. ⊥)) n → Refuses q taken n
  refused-of n (unmet r e) = rw e (out_of_range r)
  refused-of n (met r (unmet c e)) = rw e (too_uncertain r c)
  refused-of n (met r (met c e)) = absurd e
