-- What is written for the codes of a request.
use Rattle.std.specs.Prelude.{List, ◌++◌, ℕ, ◌≤◌, ◌<◌, length, drop}
use Rattle.layout.specs.declared.shape.Kind.{Kind}
use Rattle.layout.specs.Layout.{shape_rows}
use Rattle.layout.specs.Rows.{length_of}
use Rattle.requests.specs.declared.codes.Wanted.{Wanted}
use Rattle.requests.specs.Codes.{Able, BestKind, message_of}

-- 9 where no kind can hold it, else the message of the best kind, or 10
pub data WritesBest (w : Wanted) (taken : Kind → Type 0) (before : List ℕ) : ℕ → ℕ → List ℕ → Type 0 where
  no_kind : ((k : Kind) → Able w k → taken k → ⊥) → WritesBest w taken before 9 0 before
  no_room : {k : Kind} → BestKind w taken k → length before < length_of (shape_rows k 0) → WritesBest w taken before 10 0 before
  written : {k : Kind} → BestKind w taken k → length_of (shape_rows k 0) ≤ length before
      → WritesBest w taken before 0 (length_of (shape_rows k 0)) (message_of k w ++ drop (length_of (shape_rows k 0)) before)
