-- A line's answer from its words and from what the texts behind them make of the field.
use mathlib.Core.Path.{◌≡◌, refl, sym, ap, ◌∙◌, subst}
use mathlib.Core.List.{List, [], ◌∷◌}
use Prim.Native.Nat.{ℕ, ◌<◌}
use native.Mathlib.Omega.{arith}
use lib.IntN.{ℤ}
use lib.ListN.{length}
use Rattle.fields.specs.Fields.{Field, QuantityOf}
use Rattle.fields.specs.Fields as field
use Rattle.text.specs.LineFields.{fields_of}
use Rattle.text.specs.declared.said.SaidLine.{SaidLine}
use Rattle.text.specs.declared.said.SaidLine.TheVariants.{Unreadable}
use Rattle.coder.specs.Names.{code_verb, report_verb, name_of}
use Rattle.one_field.specs.Coding.{count_of}
use Rattle.coder.specs.Written.{TextSays, WriteNumbers, none, more}
use Rattle.coder.specs.FieldTexts as texts
use Rattle.coder.proofs.OneField.{counted}
use Rattle.coder.specs.Lines.{SaysQuantity, SaysNumbers, Answers, unreadable}
use Rattle.coder.specs.Lines as lines
use Rattle.coder.proofs.NameLaws.{verbs-apart, name-one}

some_number : (f : Field) → 0 < count_of f
some_number field.latitude = omega arith
some_number field.longitude = omega arith
some_number field.uncertainty = omega arith
some_number field.altitude_uncertainty = omega arith
some_number field.altitude = omega arith
some_number field.inner_radius = omega arith
some_number field.offset = omega arith
some_number field.included = omega arith
some_number field.orientation = omega arith
some_number field.bearing = omega arith
some_number field.horizontal_speed = omega arith
some_number field.vertical_speed = omega arith
some_number field.uncertainty_speed = omega arith
some_number field.confidence = omega arith

-- as many texts as numbers
as_many : {ts : List (List ℕ)} {zs : List ℤ} → WriteNumbers ts zs → length ts ≡ length zs
as_many none = refl
as_many (more m w) = omega (arith, as_many w)

-- ---- a line of too few fields

module _ {line : List ℕ} where
  few-quantity : length (fields_of line) < 3 → (f : Field) (x : QuantityOf f) → SaysQuantity line f x → ⊥
  few-quantity h f x s = omega (arith, ap length s.fields)

  few-numbers : length (fields_of line) < 3 → (f : Field) (zs : List ℤ) → SaysNumbers line f zs → ⊥
  few-numbers h f zs s = omega (arith, ap length s.fields, as_many s.numbers, s.count, some_number f)

pub too_few : (line : List ℕ) → length (fields_of line) < 3 → Answers line Unreadable
too_few line h = unreadable (few-quantity h) (few-numbers h) refl

pub alone-after : (line : List ℕ) {word t : List ℕ} {rest : List (List ℕ)} → fields_of line ≡ word ∷ rest → rest ≡ t ∷ [] → Answers line Unreadable
alone-after line e f = too_few line (omega (arith, ap length e, ap length f))

-- ---- a line with no verb

pub no-verb : {line word : List ℕ} {rest : List (List ℕ)} → fields_of line ≡ word ∷ rest → (word ≡ code_verb → ⊥) → (word ≡ report_verb → ⊥) → Answers line Unreadable
no-verb e a b = unreadable (λ f x s. let q = s.fields in a (cc)) (λ f zs s. let q = s.fields in b (cc)) refl

-- ---- a line with a verb and a name

module _ {line word name : List ℕ} {rest : List (List ℕ)} (e : fields_of line ≡ word ∷ name ∷ rest) where
  coding-word : {f : Field} {x : QuantityOf f} → SaysQuantity line f x → word ≡ code_verb
  coding-word s = let q = s.fields in cc

  reporting-word : {f : Field} {zs : List ℤ} → SaysNumbers line f zs → word ≡ report_verb
  reporting-word s = let q = s.fields in cc

  coding-name : {f : Field} {x : QuantityOf f} → SaysQuantity line f x → name ≡ name_of f
  coding-name s = let q = s.fields in cc

  reporting-name : {f : Field} {zs : List ℤ} → SaysNumbers line f zs → name ≡ name_of f
  reporting-name s = let q = s.fields in cc

  coding-rest : {f : Field} {x : QuantityOf f} (s : SaysQuantity line f x) → rest ≡ s.text ∷ []
  coding-rest s = let q = s.fields in cc

  reporting-rest : {f : Field} {zs : List ℤ} (s : SaysNumbers line f zs) → rest ≡ s.texts
  reporting-rest s = let q = s.fields in cc

  pub no-name : ((f : Field) → name ≡ name_of f → ⊥) → Answers line Unreadable
  no-name h = unreadable (λ f x s. h f (coding-name s)) (λ f zs s. h f (reporting-name s)) refl

  module _ (v : word ≡ code_verb) where
    no-report : (f : Field) (zs : List ℤ) → SaysNumbers line f zs → ⊥
    no-report f zs s = verbs-apart (sym v ∙ reporting-word s)

    pub code-field : (f : Field) → name ≡ name_of f → {r : SaidLine} → texts.CodesText f rest r → Answers line r
    code-field f n (texts.coded {text = t} q w tells p) =
        let a : fields_of line ≡ code_verb ∷ name_of f ∷ t ∷ [] = cc in
        lines.coded {f = f} (record { text = t; fields = a; writes = w }) tells p
    code-field f n {r} (texts.no_quantity h p) = unreadable other no-report p
      where
        other : (g : Field) (x : QuantityOf g) → SaysQuantity line g x → ⊥
        other g x s = same f h (name-one g f (sym (coding-name s) ∙ n))
          where
            same : (k : Field) → ((t : List ℕ) (y : QuantityOf k) → rest ≡ t ∷ [] → TextSays k t y → ⊥) → g ≡ k → ⊥
            same k h e = subst (λ (j : Field). ((t : List ℕ) (y : QuantityOf j) → rest ≡ t ∷ [] → TextSays j t y → ⊥)) (sym e) h s.text x (coding-rest s) s.writes

  module _ (v : word ≡ report_verb) where
    no-coding : (f : Field) (x : QuantityOf f) → SaysQuantity line f x → ⊥
    no-coding f x s = verbs-apart (sym (coding-word s) ∙ v)

    says : (f : Field) → name ≡ name_of f → {zs : List ℤ} → WriteNumbers rest zs → length zs ≡ count_of f → SaysNumbers line f zs
    says f n w l = record { texts = rest; fields = cc; numbers = w; count = l }

    pub report-field : (f : Field) → name ≡ name_of f → {r : SaidLine} → texts.ReportsText f rest r → Answers line r
    report-field f n (texts.reported {c = c} w tells p) = lines.reported {c = c} (says f n w (counted f c)) tells p
    report-field f n (texts.no_code w l h p) = lines.no_code (says f n w l) h p
    report-field f n {r} (texts.no_numbers h p) = unreadable no-coding other p
      where
        other : (g : Field) (zs : List ℤ) → SaysNumbers line g zs → ⊥
        other g zs s =
            let q : count_of g ≡ count_of f = ap count_of (name-one g f (sym (reporting-name s) ∙ n)) in
            h zs (subst (λ (ts : List (List ℕ)). WriteNumbers ts zs) (sym (reporting-rest s)) s.numbers) (s.count ∙ q)
