-- ONE ANSWER: the promise of the choice leaves one number, one length and one content of the buffer.
use Rattle.std.specs.Prelude.{Result, Ok, Err}
use Prim.Native.Nat.{ℕ}
use mathlib.Core.Path.{◌≡◌, refl, sym, ap}
use mathlib.Core.List.{List, ◌++◌}
use native.Mathlib.Omega.{arith}
use lib.ListN.{length, drop}
use Rattle.ground.specs.Answers.{number_of, refusal_of, outcome_number, value_or}
use Rattle.ground.proofs.AnswerLaws.{refusal-back, told-by, not-0}
use Rattle.ground.specs.declared.refusals.Refusal.{Refusal}
use Rattle.layout.specs.declared.shape.Kind.{Kind}
use Rattle.requests.specs.declared.Request.{Request}
use Rattle.requests.specs.Ranges.{RequestInRange, RequestCovered}
use Rattle.requests.specs.Choice.{Best, Refuses, out_of_range, too_uncertain, none_holds, Chosen, refuses, too_short, writes, Chooses}
use Rattle.requests.proofs.OneMessage.{best-one}

-- an answer is told by its number and, where there is one, its value
told : (a b : Result ℕ Refusal) → outcome_number a ≡ outcome_number b → value_or 0 a ≡ value_or 0 b → a ≡ b
told (Ok x) (Ok y) e v = ap Ok v
told (Ok x) (Err why) e v = absurd (not-0 why (sym e))
told (Err why) (Ok y) e v = absurd (not-0 why e)
told (Err a) (Err b) e v = ap Err (told-by number_of refusal_of refusal-back a b e)

module _ (q : Request) (taken : Kind → Type 0) where
  refusal-one : {n m : ℕ} → Refuses q taken n → Refuses q taken m → n ≡ m
  refusal-one (out_of_range f) (out_of_range g) = refl
  refusal-one (out_of_range f) (too_uncertain r g) = absurd (f r)
  refusal-one (out_of_range f) (none_holds r c g) = absurd (f r)
  refusal-one (too_uncertain r f) (out_of_range g) = absurd (g r)
  refusal-one (too_uncertain r f) (too_uncertain s g) = refl
  refusal-one (too_uncertain r f) (none_holds s c g) = absurd (f c)
  refusal-one (none_holds r c f) (out_of_range g) = absurd (g r)
  refusal-one (none_holds r c f) (too_uncertain s g) = absurd (g c)
  refusal-one (none_holds r c f) (none_holds s d g) = refl

  -- there is no reason to refuse where there is a best message
  pub refuses-not : (s : List ℕ) {n : ℕ} → RequestInRange q → RequestCovered q → Best q taken s → Refuses q taken n → ⊥
  refuses-not s r c b (out_of_range f) = f r
  refuses-not s r c b (too_uncertain t f) = f c
  refuses-not s r c b (none_holds t d f) = f s b.candidate

  record Same (n m k j : ℕ) (a b : List ℕ) : Type 0 where
    number : n ≡ m
    long : k ≡ j
    buffer : a ≡ b

  same : (before : List ℕ) {n m k j : ℕ} {a b : List ℕ} → Chosen q taken before n k a → Chosen q taken before m j b → Same n m k j a b
  same before (refuses f) (refuses g) = record { number = refusal-one f g; long = refl; buffer = refl }
  same before (refuses f) (too_short {s = s} r c b l) = absurd (refuses-not s r c b f)
  same before (refuses f) (writes {s = s} r c b l) = absurd (refuses-not s r c b f)
  same before (too_short {s = s} r c b l) (refuses f) = absurd (refuses-not s r c b f)
  same before (too_short r c b l) (too_short r₁ c₁ b₁ l₁) = record { number = refl; long = refl; buffer = refl }
  same before (too_short {s = s} r c b l) (writes {s = t} r₁ c₁ b₁ l₁) = absurd (omega (arith, ap length (best-one q taken s t b b₁)))
  same before (writes {s = s} r c b l) (refuses f) = absurd (refuses-not s r c b f)
  same before (writes {s = s} r c b l) (too_short {s = t} r₁ c₁ b₁ l₁) = absurd (omega (arith, ap length (best-one q taken s t b b₁)))
  same before (writes {s = s} r c b l) (writes {s = t} r₁ c₁ b₁ l₁) =
      let e = best-one q taken s t b b₁ in
      record { number = refl; long = ap length e; buffer = ap (λ (u : List ℕ). u ++ drop (length u) before) e }

  module _ (before after after₁ : List ℕ) (a b : Result ℕ Refusal) (p : Chooses q taken before after a) (r : Chooses q taken before after₁ b) where
    pub chooses-one : a ≡ b
    chooses-one =
        told a b (same before p r).number (same before p r).long

    pub chosen-buffer-one : after ≡ after₁
    chosen-buffer-one = (same before p r).buffer
