-- DEMAND 3 in its own words. That the choice's promise says it is a law (proofs/Demand3.antt).
use Rattle.std.specs.Prelude.{ℕ, ◌≤◌, ◌<◌, ◌≡◌, List, ◌++◌, length, drop}
use Rattle.layout.specs.declared.shape.Kind.{Kind}
use Rattle.requests.specs.declared.Request.{Request}
use Rattle.requests.specs.Ranges.{RequestInRange, RequestCovered}
use Rattle.requests.specs.Choice.{Candidate, Best}

-- P exactly when Q
pub record Exactly (P Q : Type 0) : Type 0 where
  pub only : P → Q
  pub if : Q → P

-- there is a best message
pub record SomeBest (q : Request) (taken : Kind → Type 0) : Type 0 where
  pub message : List ℕ
  pub is_best : Best q taken message

-- s stands in the first octets, the others are as they were
pub record StandsIn (s before : List ℕ) (long : ℕ) (after : List ℕ) : Type 0 where
  pub length_is : long ≡ length s
  pub buffer : after ≡ s ++ drop (length s) before

-- the number n of the answer, how many octets are written, the buffer before and after
pub record Demand3 (q : Request) (taken : Kind → Type 0) (before : List ℕ) (n long : ℕ) (after : List ℕ) : Type 0 where
  -- 7 exactly when a quantity is out of range
  pub seven : Exactly (n ≡ 7) (RequestInRange q → ⊥)
  -- else 8 exactly when an uncertainty is above what the largest code covers
  pub eight : RequestInRange q → Exactly (n ≡ 8) (RequestCovered q → ⊥)
  -- else 9 exactly when no readable message of a listed kind holds the request
  pub nine : RequestInRange q → RequestCovered q → Exactly (n ≡ 9) ((s : List ℕ) → Candidate q taken s → ⊥)
  -- else there is a best message
  pub some : RequestInRange q → RequestCovered q → (s : List ℕ) → Candidate q taken s → SomeBest q taken
  -- 10 exactly when the buffer is shorter than that message
  pub ten : RequestInRange q → RequestCovered q → (s : List ℕ) → Best q taken s → Exactly (n ≡ 10) (length before < length s)
  -- else 0, and it is written
  pub zero : RequestInRange q → RequestCovered q → (s : List ℕ) → Best q taken s → length s ≤ length before → (n ≡ 0) × StandsIn s before long after
  -- with room for 14 octets it is never 10
  pub roomy : 14 ≤ length before → n ≡ 10 → ⊥
  -- on a refusal the whole buffer is as it was
  pub kept : (n ≡ 0 → ⊥) → (long ≡ 0) × (after ≡ before)
