-- A kind that is looked for on the list alone.
use mathlib.Core.Path.{◌≡◌, sym, subst}
use Rattle.layout.specs.declared.shape.Kind.{Kind}
use Rattle.requests.specs.declared.codes.Wanted.{Wanted}
use Rattle.requests.specs.Codes.{Able, BestKind}
use Rattle.requests.proofs.FoundLaws.{only-best}
use Rattle.std.specs.Prelude.{Option, Some, None}
use Rattle.choice.specs.Kinds.{FindsKind, FindsListed}

-- it is the best where it is the only one that is taken and can hold what is wanted
module _ (w : Wanted) (taken : Kind → Type 0) (k : Kind) (able : Able w k) (only : (j : Kind) → Able w j → taken j → j ≡ k) where
  pub found-only : (r : Option Kind) → FindsListed k taken r → FindsKind w taken r
  found-only (Some j) h = subst (BestKind w taken) (sym h.0) (only-best w taken k able only h.1)
  found-only None none = λ j a t. none (subst taken (only j a t) t)
