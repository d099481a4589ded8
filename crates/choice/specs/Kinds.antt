-- Which kind is found.
use Rattle.std.specs.Prelude.{◌≡◌, Option, Some, None}
use Rattle.layout.specs.declared.shape.Kind.{Kind}
use Rattle.requests.specs.declared.codes.Wanted.{Wanted}
use Rattle.requests.specs.Codes.{Able, BestKind}

-- the best of the kinds that are taken and can hold it, where there is one
abbrev pub FindsKind : Wanted → (Kind → Type 0) → Option Kind → Type 0
FindsKind w taken (Some k) = BestKind w taken k
FindsKind w taken None = (k : Kind) → Able w k → taken k → ⊥

-- that kind, if it is taken
abbrev pub FindsListed : Kind → (Kind → Type 0) → Option Kind → Type 0
FindsListed k taken (Some j) = (j ≡ k) × taken k
FindsListed k taken None = taken k → ⊥
