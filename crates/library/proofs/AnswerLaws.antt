-- Two lots of numbers that are answered alike: the same, or the one cut at what its codes hold.
use Rattle.std.specs.Prelude.{Result, Ok, Err}
use Prim.Native.Nat.{ℕ, ◌≤◌, ◌<◌}
use mathlib.Core.Path.{◌≡◌, refl, sym, subst, ◌∙◌}
use mathlib.Core.Bool.{Bool, true, false, cond}
use mathlib.Core.List.{List, ◌++◌}
use native.Mathlib.Omega.{arith}
use lib.Dec.{ltb}
use lib.ListN.{length, drop}
use borrow.Author.Tests.{ltb-true, ltb-false}
use Rattle.ground.specs.Answers.{outcome_number, handed, Unless, unmet, met}
use Rattle.ground.proofs.AnswerLaws.{not-0}
use Rattle.ground.specs.declared.refusals.Refusal.{Refusal}
use Rattle.layout.specs.Layout.{MessageField, Row}
use Rattle.layout.specs.Layout as layout
use Rattle.layout.specs.Rows.{tag, width_of, length_of, message}
use Rattle.layout.specs.Demands.{TypeKnown, CountSound, AnglesSound, ConfidenceSound, InFields, WriteAnswer, Writes}
use Rattle.code_arrays.specs.CodeNumbers.{capped}
use Rattle.code_arrays.specs.Answers.{else_out_of_range}

-- ---- the same numbers, where the type is listed

-- 2 refuses
refused-alike : {V A : Type 0} (r : Result V Refusal) (x y before : A) → outcome_number r ≡ 2 → handed r x before ≡ handed r y before
refused-alike (Ok v) x y before e = absurd (omega arith)
refused-alike (Err why) x y before e = refl

module _ (rows : List Row) (value value' : MessageField → ℕ) (same : TypeKnown rows → (f : MessageField) → value f ≡ value' f) where
  pub answer-alike : (room m : ℕ) → WriteAnswer rows value room m → WriteAnswer rows value' room m
  answer-alike room m (unmet p e) = unmet p e
  answer-alike room m (met l a) = subst (λ (v : MessageField → ℕ). WriteAnswer rows v room m) (λ i f. same l f i) (met l a)

  pub writes-alike : (before after : List ℕ) (w : Result ℕ Refusal) → Writes rows value before after w → Writes rows value' before after w
  writes-alike before after w h = by h.answer
    where
      by : WriteAnswer rows value (length before) (outcome_number w) → Writes rows value' before after w
      by (unmet p e) = record {
        answer = unmet p e;
        written = h.written;
        buffer = h.buffer ∙ refused-alike w (message rows value ++ drop (length_of rows) before) (message rows value' ++ drop (length_of rows) before) before e;
      }
      by (met l a) = subst (λ (v : MessageField → ℕ). Writes rows v before after w) (λ i f. same l f i) h

-- ---- a number that is cut

capped-by : (largest n : ℕ) (P : ℕ → Type 0) → (largest < n → P largest) → (n ≤ largest → P n) → P (capped largest n)
capped-by largest n P over under = by (ltb largest n) refl
  where
    by : (b : Bool) → ltb largest n ≡ b → P (cond b largest n)
    by true e = over (ltb-true largest n e)
    by false e = under (ltb-false largest n e)

-- it has the same kind, where all numbers from the largest on have
pub same_kind : {A : Type 0} (kind : ℕ → A) (largest : ℕ) → ((n : ℕ) → largest < n → kind largest ≡ kind n) → (n : ℕ) → kind (capped largest n) ≡ kind n
same_kind kind largest past n = capped-by largest n (λ (v : ℕ). kind v ≡ kind n) (past n) (λ h. refl)

-- two numbers are both below a limit, or neither is
pub record Cut (limit v n : ℕ) : Type 0 where
  pub below : v < limit → n < limit
  pub below-back : n < limit → v < limit
  pub from : limit ≤ v → limit ≤ n
  pub from_back : limit ≤ n → limit ≤ v

pub cut : (largest limit n : ℕ) {m : ℕ} → limit ≤ largest → n ≡ m → Cut limit (capped largest n) m
cut largest limit n h e = subst (λ (m : ℕ). Cut limit (capped largest n) m) e (capped-by largest n (λ (v : ℕ). Cut limit v n)
    (λ l. record { below = λ p. omega arith; below-back = λ p. omega arith; from = λ p. omega arith; from_back = λ p. omega arith })
    (λ l. record { below = λ p. p; below-back = λ p. p; from = λ p. p; from_back = λ p. p }))

turned : {limit v n : ℕ} → Cut limit v n → Cut limit n v
turned c = record { below = c.below-back; below-back = c.below; from = c.from_back; from_back = c.from }

-- ---- the demands 2, 4, 5 and 6 are met alike

pub record Alike (rows rows' : List Row) (value value' : MessageField → ℕ) : Type 0 where
  pub listed : TypeKnown rows → TypeKnown rows'
  pub listed_back : TypeKnown rows' → TypeKnown rows
  pub count-width : width_of rows layout.count ≡ width_of rows' layout.count
  pub widths : (f : MessageField) → 2 ≤ tag f → tag f < 22 → width_of rows f ≡ width_of rows' f
  pub least : Cut 3 (value layout.count) (value' layout.count)
  pub most : Cut 16 (value layout.count) (value' layout.count)
  pub orientations : Cut 180 (value layout.orientation) (value' layout.orientation)
  pub offsets : Cut 180 (value layout.offset) (value' layout.offset)
  pub includeds : Cut 180 (value layout.included) (value' layout.included)
  pub bearings : Cut 360 (value layout.bearing) (value' layout.bearing)
  pub confidences : Cut 101 (value layout.confidence) (value' layout.confidence)

alike-back : {rows rows' : List Row} {value value' : MessageField → ℕ} → Alike rows rows' value value' → Alike rows' rows value' value
alike-back a = record {
  listed = a.listed_back;
  listed_back = a.listed;
  count-width = sym a.count-width;
  widths = λ f l m. sym (a.widths f l m);
  least = turned a.least;
  most = turned a.most;
  orientations = turned a.orientations;
  offsets = turned a.offsets;
  includeds = turned a.includeds;
  bearings = turned a.bearings;
  confidences = turned a.confidences;
}

module _ {rows rows' : List Row} {value value' : MessageField → ℕ} (a : Alike rows rows' value value') where
  used : (f : MessageField) → 2 ≤ tag f → tag f < 22 → 0 < width_of rows' f → 0 < width_of rows f
  used f l m u = omega (arith, a.widths f l m)

  counted : CountSound rows value → CountSound rows' value'
  counted s = record {
    least = λ u. a.least.from (s.least (omega (arith, a.count-width)));
    most = λ u. omega (arith, a.most.below (omega (arith, s.most (omega (arith, a.count-width)))));
  }

  angles : AnglesSound rows value → AnglesSound rows' value'
  angles s = record {
    orientations = λ u. a.orientations.below (s.orientations (used layout.orientation (omega arith) (omega arith) u));
    offsets = λ u. a.offsets.below (s.offsets (used layout.offset (omega arith) (omega arith) u));
    includeds = λ u. a.includeds.below (s.includeds (used layout.included (omega arith) (omega arith) u));
    bearings = λ u. a.bearings.below (s.bearings (used layout.bearing (omega arith) (omega arith) u));
  }

  sure : ConfidenceSound rows value → ConfidenceSound rows' value'
  sure s = record { confidences = λ u. a.confidences.below (s.confidences (used layout.confidence (omega arith) (omega arith) u)) }

-- ---- what is in no fields is refused with 7, where nothing comes before it

kept : (o : Result Unit Refusal) (n : ℕ) → 0 < n → outcome_number o ≡ n → outcome_number (else_out_of_range o) ≡ n
kept (Ok _) n h e = absurd (omega arith)
kept (Err why) n h e = e

otherwise : (o : Result Unit Refusal) → outcome_number o ≡ 0 → outcome_number (else_out_of_range o) ≡ 7
otherwise (Ok _) e = refl
otherwise (Err why) e = absurd (not-0 why e)

module _ (o : Result Unit Refusal) where
  demand-alike : {P Q : Type 0} {n : ℕ} {A B : ℕ → Type 0} → 0 < n → (P → Q) → (Q → P) → (A (outcome_number o) → B (outcome_number (else_out_of_range o)))
      → Unless P n A (outcome_number o) → Unless Q n B (outcome_number (else_out_of_range o))
  demand-alike {n = n} h to from others (unmet p e) = unmet (λ q. p (from q)) (kept o n h e)
  demand-alike h to from others (met p e) = met (to p) (others e)

  pub misfit : {rows rows' : List Row} {value value' : MessageField → ℕ} → Alike rows rows' value value' → (InFields rows' value' → ⊥) → (room : ℕ)
      → WriteAnswer rows value (length_of rows) (outcome_number o) → WriteAnswer rows' value' room (outcome_number (else_out_of_range o))
  misfit {rows} {rows'} {value} {value'} a unfit room =
      demand-alike (omega arith) a.listed a.listed_back
      (demand-alike (omega arith) (counted a) (counted (alike-back a))
      (demand-alike (omega arith) (angles a) (angles (alike-back a))
      (demand-alike (omega arith) (sure a) (sure (alike-back a)) last)))
    where
      last : Unless (InFields rows value) 7 (Unless (length_of rows ≤ length_of rows) 10 (λ m. m ≡ 0)) (outcome_number o)
          → Unless (InFields rows' value') 7 (Unless (length_of rows' ≤ room) 10 (λ m. m ≡ 0)) (outcome_number (else_out_of_range o))
      last (unmet p e) = unmet unfit (kept o 7 (omega arith) e)
      last (met p (unmet r e)) = absurd (r (omega arith))
      last (met p (met r e)) = unmet unfit (otherwise o e)
