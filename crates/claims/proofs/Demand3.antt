-- The choice's promise says demand 3; and what follows for one kind, and for a list that takes more.
use Prim.Native.Nat.{ℕ, ◌<◌}
use mathlib.Core.Path.{◌≡◌, refl, sym, ap, subst}
use mathlib.Core.List.{List, ◌++◌}
use native.Mathlib.Omega.{arith}
use lib.ListN.{length, drop}
use Rattle.layout.specs.declared.shape.Kind.{Kind}
use Rattle.layout.specs.Shapes.{shape_in}
use Rattle.requests.specs.declared.Request.{Request}
use Rattle.requests.specs.Choice.{Candidate, Better, Best, out_of_range, too_uncertain, none_holds, Chosen, refuses, too_short, writes}
use Rattle.claims.specs.Demand3.{StandsIn, Demand3}
use Rattle.requests.proofs.BestLaws.{at-most-14}
use Rattle.requests.proofs.OneMessage.{best-one}

module _ (q : Request) (taken : Kind → Type 0) (before : List ℕ) where
  pub demand-3 : {n long : ℕ} {after : List ℕ} → Chosen q taken before n long after → Demand3 q taken before n long after
  demand-3 (refuses (out_of_range f)) = record {
    seven = record { only = λ e. f; if = λ g. refl };
    eight = λ r. absurd (f r);
    nine = λ r. absurd (f r);
    some = λ r. absurd (f r);
    ten = λ r. absurd (f r);
    zero = λ r. absurd (f r);
    roomy = λ l e. absurd (omega arith);
    kept = λ e. (refl, refl);
  }
  demand-3 (refuses (too_uncertain r f)) = record {
    seven = record { only = λ e. absurd (omega arith); if = λ g. absurd (g r) };
    eight = λ t. record { only = λ e. f; if = λ g. refl };
    nine = λ t c. absurd (f c);
    some = λ t c. absurd (f c);
    ten = λ t c. absurd (f c);
    zero = λ t c. absurd (f c);
    roomy = λ l e. absurd (omega arith);
    kept = λ e. (refl, refl);
  }
  demand-3 (refuses (none_holds r c f)) = record {
    seven = record { only = λ e. absurd (omega arith); if = λ g. absurd (g r) };
    eight = λ t. record { only = λ e. absurd (omega arith); if = λ g. absurd (g c) };
    nine = λ t d. record { only = λ e. f; if = λ g. refl };
    some = λ t d s h. absurd (f s h);
    ten = λ t d s b. absurd (f s b.candidate);
    zero = λ t d s b. absurd (f s b.candidate);
    roomy = λ l e. absurd (omega arith);
    kept = λ e. (refl, refl);
  }
  demand-3 (too_short {s = m} r c b l) = record {
    seven = record { only = λ e. absurd (omega arith); if = λ g. absurd (g r) };
    eight = λ t. record { only = λ e. absurd (omega arith); if = λ g. absurd (g c) };
    nine = λ t d. record { only = λ e. absurd (omega arith); if = λ g. absurd (g m b.candidate) };
    some = λ t d s h. record { message = m; is_best = b };
    ten = λ t d s a. record { only = λ e. subst (λ (u : List ℕ). length before < length u) (best-one q taken m s b a) l; if = λ h. refl };
    zero = λ t d s a h. absurd (omega (arith, ap length (best-one q taken m s b a)));
    roomy = λ h e. absurd (omega (arith, at-most-14 m b.candidate));
    kept = λ e. (refl, refl);
  }
  demand-3 (writes {s = m} r c b l) = record {
    seven = record { only = λ e. absurd (omega arith); if = λ g. absurd (g r) };
    eight = λ t. record { only = λ e. absurd (omega arith); if = λ g. absurd (g c) };
    nine = λ t d. record { only = λ e. absurd (omega arith); if = λ g. absurd (g m b.candidate) };
    some = λ t d s h. record { message = m; is_best = b };
    ten = λ t d s a. record { only = λ e. absurd (omega arith); if = λ h. absurd (omega (arith, ap length (best-one q taken m s b a))) };
    zero = λ t d s a h. (refl, subst (λ (u : List ℕ). StandsIn u before (length m) (m ++ drop (length m) before)) (best-one q taken m s b a) (record { length_is = refl; buffer = refl }));
    roomy = λ h e. absurd (omega arith);
    kept = λ e. absurd (e refl);
  }

-- ---- a list that takes more

module _ (q : Request) (taken more : Kind → Type 0) (wider : (k : Kind) → taken k → more k) where
  pub candidate-more : (s : List ℕ) → Candidate q taken s → Candidate q more s
  candidate-more s c = record { octets = c.octets; readable = c.readable; part = c.part; listed = wider _ c.listed; holds = c.holds }

  -- the best message under it is not looser
  pub never-looser : (s t : List ℕ) → Best q taken s → Best q more t → Better s t → ⊥
  never-looser s t a b = b.none_better s (candidate-more s a.candidate)

-- ---- pick first, write later: the best message is the best of its own kind
pub best-in-kind : (q : Request) (taken : Kind → Type 0) (s : List ℕ) → Best q taken s → Best q (λ k. k ≡ (shape_in s).kind) s
best-in-kind q taken s a = record {
  candidate = record { octets = a.candidate.octets; readable = a.candidate.readable; part = a.candidate.part; listed = refl; holds = a.candidate.holds };
  none_better = λ t h. a.none_better t (candidate-more q (λ k. k ≡ (shape_in s).kind) taken (λ k e. subst taken (sym e) a.candidate.listed) t h);
  own = a.own;
}
