-- One answer: a line says one quantity or one list of numbers, not both.
use mathlib.Core.Path.{◌≡◌, sym, ap, ◌∙◌, subst}
use mathlib.Core.List.{List}
use Prim.Native.Nat.{ℕ}
use lib.IntN.{ℤ}
use Rattle.std.specs.Prelude.{Result}
use Rattle.ground.specs.declared.refusals.Refusal.{Refusal}
use Rattle.ground.specs.declared.said.SaidCode.{SaidCode}
use Rattle.ground.specs.declared.said.SaidQuantity.{SaidQuantity}
use Rattle.fields.specs.Fields.{Field, CodeOf, QuantityOf}
use Rattle.one_field.specs.Coding as coding
use Rattle.one_field.proofs.OneCode.{tells-code-one}
use Rattle.one_field.specs.Reporting as reporting
use Rattle.one_field.proofs.OneQuantity.{tells-quantity-one}
use Rattle.text.specs.AnswerLines.{line_of_code, line_of_quantity}
use Rattle.text.specs.declared.said.SaidLine.{SaidLine}
use Rattle.coder.specs.Written.{TextSays, WriteNumbers, numbers_of}
use Rattle.coder.proofs.OneField.{quantity-one, numbers-one, code_one}
use Rattle.coder.specs.Names.{name_of, code_verb, report_verb}
use Rattle.coder.specs.Lines.{SaysQuantity, SaysNumbers, Answers, unreadable, no_code}
use Rattle.coder.specs.Lines as lines
use Rattle.coder.proofs.NameLaws.{verbs-apart, name-one}

-- ---- a line says one thing

module _ {line : List ℕ} where
  both : {f g : Field} {x : QuantityOf f} {zs : List ℤ} → SaysQuantity line f x → SaysNumbers line g zs → ⊥
  both s u = let p = s.fields in let q = u.fields in let e : code_verb ≡ report_verb = cc in verbs-apart e

  coding-field : {f g : Field} {x : QuantityOf f} {y : QuantityOf g} → SaysQuantity line f x → SaysQuantity line g y → g ≡ f
  coding-field {f} {g} s u = let p = s.fields in let q = u.fields in let e : name_of g ≡ name_of f = cc in name-one g f e

  reporting-field : {f g : Field} {ys zs : List ℤ} → SaysNumbers line f ys → SaysNumbers line g zs → g ≡ f
  reporting-field {f} {g} s u = let p = s.fields in let q = u.fields in let e : name_of g ≡ name_of f = cc in name-one g f e

  same-quantity : {f : Field} {x y : QuantityOf f} → SaysQuantity line f x → SaysQuantity line f y → y ≡ x
  same-quantity {f} {x} {y} s u =
      let p = s.fields in
      let q = u.fields in
      let e : s.text ≡ u.text = cc in
      quantity-one f u.text y x u.writes (subst (λ (t : List ℕ). TextSays f t x) e s.writes)

  same_numbers : {f g : Field} {ys zs : List ℤ} → SaysNumbers line f ys → SaysNumbers line g zs → ys ≡ zs
  same_numbers {f} {g} {ys} {zs} s u = numbers-one s.numbers (subst (λ (ts : List (List ℕ)). WriteNumbers ts zs) (texts-one s u) u.numbers)
    where
      texts-one : (s : SaysNumbers line f ys) (u : SaysNumbers line g zs) → u.texts ≡ s.texts
      texts-one s u = let p = s.fields in let q = u.fields in cc

  -- what is said of it
  said-code : (f : Field) {x : QuantityOf f} {a : Result SaidCode Refusal} → SaysQuantity line f x → coding.TellsCode f x a → (g : Field) (y : QuantityOf g) (b : Result SaidCode Refusal) → SaysQuantity line g y → coding.TellsCode g y b → a ≡ b
  said-code f {x} {a} s t g y b u v =
      subst (λ (k : Field). ((z : QuantityOf k) (d : Result SaidCode Refusal) → SaysQuantity line k z → coding.TellsCode k z d → a ≡ d)) (sym (coding-field s u))
      (λ z d w h. tells-code-one f x a d t (subst (λ (q : QuantityOf f). coding.TellsCode f q d) (same-quantity s w) h)) y b u v

  said-quantity : (f : Field) (c : CodeOf f) {a : Result SaidQuantity Refusal} → SaysNumbers line f (numbers_of f c) → reporting.TellsQuantity f c a → (g : Field) (d : CodeOf g) (b : Result SaidQuantity Refusal) → SaysNumbers line g (numbers_of g d) → reporting.TellsQuantity g d b → a ≡ b
  said-quantity f c {a} s t g d b u v =
      subst (λ (k : Field). ((z : CodeOf k) (q : Result SaidQuantity Refusal) → SaysNumbers line k (numbers_of k z) → reporting.TellsQuantity k z q → a ≡ q)) (sym (reporting-field s u))
      (λ z q w h. tells-quantity-one f c a q t (subst (λ (j : CodeOf f). reporting.TellsQuantity f j q) (code_one f z c (sym (same_numbers s w))) h)) d b u v

  is_code : (f : Field) (c : CodeOf f) → SaysNumbers line f (numbers_of f c) → (g : Field) (zs : List ℤ) → SaysNumbers line g zs → ((d : CodeOf g) → numbers_of g d ≡ zs → ⊥) → ⊥
  is_code f c s g zs u h = subst (λ (k : Field). (((d : CodeOf k) → numbers_of k d ≡ zs → ⊥) → ⊥)) (sym (reporting-field s u)) (λ i. i c (same_numbers s u)) h

pub answers_one : {line : List ℕ} {a b : SaidLine} → Answers line a → Answers line b → a ≡ b
answers_one (lines.coded {f = f} s t p) (lines.coded {f = g} {x = y} {said = b} u v q) = p ∙ ap line_of_code (said-code f s t g y b u v) ∙ sym q
answers_one (lines.coded s t p) (lines.reported u v q) = absurd (both s u)
answers_one (lines.coded s t p) (no_code u h q) = absurd (both s u)
answers_one (lines.coded {f = f} {x = x} s t p) (unreadable h i q) = absurd (h f x s)
answers_one (lines.reported s t p) (lines.coded u v q) = absurd (both u s)
answers_one (lines.reported {f = f} {c = c} s t p) (lines.reported {f = g} {c = d} {said = b} u v q) = p ∙ ap line_of_quantity (said-quantity f c s t g d b u v) ∙ sym q
answers_one (lines.reported {f = f} {c = c} s t p) (no_code {f = g} {zs = zs} u h q) = absurd (is_code f c s g zs u h)
answers_one (lines.reported {f = f} {c = c} s t p) (unreadable h i q) = absurd (i f (numbers_of f c) s)
answers_one (no_code s h p) (lines.coded u v q) = absurd (both u s)
answers_one (no_code {f = f} {zs = zs} s h p) (lines.reported {f = g} {c = d} u v q) = absurd (is_code g d u f zs s h)
answers_one (no_code s h p) (no_code u i q) = p ∙ sym q
answers_one (no_code {f = f} {zs = zs} s h p) (unreadable i j q) = absurd (j f zs s)
answers_one (unreadable h i p) (lines.coded {f = f} {x = x} u v q) = absurd (h f x u)
answers_one (unreadable h i p) (lines.reported {f = f} {c = c} u v q) = absurd (i f (numbers_of f c) u)
answers_one (unreadable h i p) (no_code {f = f} {zs = zs} u j q) = absurd (i f zs u)
answers_one (unreadable h i p) (unreadable j k q) = p ∙ sym q
