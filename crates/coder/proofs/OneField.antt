-- One answer: texts write one quantity or none, one list of numbers or none, and numbers are one code or none.
use Rattle.std.specs.Prelude.{Option, Some, None}
use mathlib.Core.Path.{◌≡◌, refl, sym, ap, ◌∙◌, subst}
use mathlib.Core.Bool.{Bool, true, false, cond}
use mathlib.Core.List.{List, [], ◌∷◌}
use Prim.Native.Nat.{ℕ}
use native.Mathlib.Omega.{arith}
use lib.IntN.{ℤ, pos}
use lib.Signed.{mag}
use lib.ListN.{length}
use Rattle.fields.specs.Fields.{Field, CodeOf, QuantityOf}
use Rattle.fields.specs.Fields as field
use Rattle.one_field.specs.Coding as coding
use Rattle.one_field.proofs.OneCode.{tells-code-one}
use Rattle.one_field.specs.Reporting as reporting
use Rattle.one_field.proofs.OneQuantity.{tells-quantity-one}
use Rattle.text.proofs.WidthLaws.{means-one}
use Rattle.text.proofs.SaysLaws.{signed-one, unsigned-one, unsigned-dash, confidence-one}
use Rattle.text.specs.AnswerLines.{line_of_code, line_of_quantity}
use Rattle.text.specs.declared.said.SaidLine.{SaidLine}
use Rattle.one_field.specs.Coding.{count_of}
use Rattle.coder.specs.declared.names.Name.{Name}
use Rattle.coder.specs.Names.{field_of}
use Rattle.coder.specs.Written.{TextSays, WritesUncertaintySpeed, WriteNumbers, none, more, signed_numbers, numbers_of}
use Rattle.coder.specs.FieldTexts.{CodesText, no_quantity, CodesAt, ReportsText, no_code, no_numbers, ReportsAt}
use Rattle.coder.specs.FieldTexts as texts
use Rattle.ground.specs.declared.quantity.MetresPerHour.{MetresPerHour}

-- ---- a text writes one quantity

speed-one : (t : List ℕ) (x y : Option MetresPerHour) → WritesUncertaintySpeed t x → WritesUncertaintySpeed t y → x ≡ y
speed-one t (Some x) (Some y) s u = λ i. Some (record { 0 = unsigned-one s u i })
speed-one t (Some x) None s u = absurd (unsigned-dash s u)
speed-one t None (Some y) s u = absurd (unsigned-dash u s)
speed-one t None None s u = refl

pub quantity-one : (f : Field) (t : List ℕ) (x y : QuantityOf f) → TextSays f t x → TextSays f t y → x ≡ y
quantity-one field.latitude t x y s u = λ i. record { 0 = signed-one s u i }
quantity-one field.longitude t x y s u = λ i. record { 0 = signed-one s u i }
quantity-one field.uncertainty t x y s u = λ i. record { 0 = unsigned-one s u i }
quantity-one field.altitude_uncertainty t x y s u = λ i. record { 0 = unsigned-one s u i }
quantity-one field.altitude t x y s u = λ i. record { 0 = signed-one s u i }
quantity-one field.inner_radius t x y s u = λ i. record { 0 = unsigned-one s u i }
quantity-one field.offset t x y s u = λ i. record { 0 = unsigned-one s u i }
quantity-one field.included t x y s u = λ i. record { 0 = unsigned-one s u i }
quantity-one field.orientation t x y s u = λ i. record { 0 = unsigned-one s u i }
quantity-one field.bearing t x y s u = λ i. record { 0 = unsigned-one s u i }
quantity-one field.horizontal_speed t x y s u = λ i. record { 0 = unsigned-one s u i }
quantity-one field.vertical_speed t x y s u = λ i. record { 0 = signed-one s u i }
quantity-one field.uncertainty_speed t x y s u = speed-one t x y s u
quantity-one field.confidence t x y s u = confidence-one t x y s u

-- ---- texts write one list of numbers, and that is one code's

pub numbers-one : {ts : List (List ℕ)} {ys zs : List ℤ} → WriteNumbers ts ys → WriteNumbers ts zs → ys ≡ zs
numbers-one none none = refl
numbers-one (more m w) (more n u) = λ i. means-one m n i ∷ numbers-one w u i

bit-one : (s t : Bool) → ◌≡◌ {A = ℕ} (cond s 1 0) (cond t 1 0) → s ≡ t
bit-one true true e = refl
bit-one true false e = absurd (omega arith)
bit-one false true e = absurd (omega arith)
bit-one false false e = refl

sign-one : (s t : Bool) {m n : ℕ} → signed_numbers s m ≡ signed_numbers t n → s ≡ t
sign-one s t e = let q : pos (cond s 1 0) ≡ pos (cond t 1 0) = cc in bit-one s t (ap mag q)

size-one : (s t : Bool) {m n : ℕ} → signed_numbers s m ≡ signed_numbers t n → m ≡ n
size-one s t e = cc

number-one : {m n : ℕ} → ◌≡◌ {A = List ℤ} (pos m ∷ []) (pos n ∷ []) → m ≡ n
number-one e = cc

longitude-one : {y z : ℤ} → ◌≡◌ {A = List ℤ} (y ∷ []) (z ∷ []) → y ≡ z
longitude-one e = cc

pub code_one : (f : Field) (c d : CodeOf f) → numbers_of f c ≡ numbers_of f d → c ≡ d
code_one field.latitude c d e = λ i. record { 0 = sign-one c.0 d.0 e i; 1 = size-one c.0 d.0 e i }
code_one field.longitude c d e = λ i. record { 0 = longitude-one e i }
code_one field.uncertainty c d e = λ i. record { 0 = number-one e i }
code_one field.altitude_uncertainty c d e = λ i. record { 0 = number-one e i }
code_one field.altitude c d e = λ i. record { 0 = sign-one c.0 d.0 e i; 1 = size-one c.0 d.0 e i }
code_one field.inner_radius c d e = λ i. record { 0 = number-one e i }
code_one field.offset c d e = λ i. record { 0 = number-one e i }
code_one field.included c d e = λ i. record { 0 = number-one e i }
code_one field.orientation c d e = λ i. record { 0 = number-one e i }
code_one field.bearing c d e = λ i. record { 0 = number-one e i }
code_one field.horizontal_speed c d e = λ i. record { 0 = number-one e i }
code_one field.vertical_speed c d e = λ i. record { 0 = sign-one c.0 d.0 e i; 1 = size-one c.0 d.0 e i }
code_one field.uncertainty_speed c d e = λ i. record { 0 = number-one e i }
code_one field.confidence c d e = λ i. record { 0 = number-one e i }

pub counted : (f : Field) (c : CodeOf f) → length (numbers_of f c) ≡ count_of f
counted field.latitude c = refl
counted field.longitude c = refl
counted field.uncertainty c = refl
counted field.altitude_uncertainty c = refl
counted field.altitude c = refl
counted field.inner_radius c = refl
counted field.offset c = refl
counted field.included c = refl
counted field.orientation c = refl
counted field.bearing c = refl
counted field.horizontal_speed c = refl
counted field.vertical_speed c = refl
counted field.uncertainty_speed c = refl
counted field.confidence c = refl

-- ---- what is said

pub codes-one : (f : Field) {ts : List (List ℕ)} {a b : SaidLine} → CodesText f ts a → CodesText f ts b → a ≡ b
codes-one f (texts.coded {text = t} {x = x} {said = u} e w c p) (texts.coded {text = s} {x = y} {said = v} d i j q) =
    let same : s ≡ t = cc in
    let z : y ≡ x = quantity-one f t y x (subst (λ (k : List ℕ). TextSays f k y) same i) w in
    p ∙ ap line_of_code (tells-code-one f x u v c (subst (λ (k : QuantityOf f). coding.TellsCode f k v) z j)) ∙ sym q
codes-one f (texts.coded {text = t} {x = x} e w c p) (no_quantity h q) = absurd (h t x e w)
codes-one f (no_quantity h p) (texts.coded {text = t} {x = x} e w c q) = absurd (h t x e w)
codes-one f (no_quantity h p) (no_quantity i q) = p ∙ sym q

pub reports-one : (f : Field) {ts : List (List ℕ)} {a b : SaidLine} → ReportsText f ts a → ReportsText f ts b → a ≡ b
reports-one f (texts.reported {c = c} {said = u} w t p) (texts.reported {c = d} {said = v} i s q) =
    p ∙ ap line_of_quantity (tells-quantity-one f c u v t (subst (λ (k : CodeOf f). reporting.TellsQuantity f k v) (code_one f d c (numbers-one i w)) s)) ∙ sym q
reports-one f (texts.reported {c = c} w t p) (no_code i l h q) = absurd (h c (numbers-one w i))
reports-one f (texts.reported {c = c} w t p) (no_numbers h q) = absurd (h (numbers_of f c) w (counted f c))
reports-one f (no_code w l h p) (texts.reported {c = d} i s q) = absurd (h d (numbers-one i w))
reports-one f (no_code w l h p) (no_code i m k q) = p ∙ sym q
reports-one f (no_code {zs = zs} w l h p) (no_numbers k q) = absurd (k zs w l)
reports-one f (no_numbers h p) (texts.reported {c = d} i s q) = absurd (h (numbers_of f d) i (counted f d))
reports-one f (no_numbers h p) (no_code {zs = zs} i l k q) = absurd (h zs i l)
reports-one f (no_numbers h p) (no_numbers i q) = p ∙ sym q

-- ---- of what a word names

pub codes-at-one : (name : Option Name) (ts : List (List ℕ)) {a b : SaidLine} → CodesAt name ts a → CodesAt name ts b → a ≡ b
codes-at-one (Some name) ts p q = codes-one (field_of name) p q
codes-at-one None ts p q = p ∙ sym q

pub reports-at-one : (name : Option Name) (ts : List (List ℕ)) {a b : SaidLine} → ReportsAt name ts a → ReportsAt name ts b → a ≡ b
reports-at-one (Some name) ts p q = reports-one (field_of name) p q
reports-at-one None ts p q = p ∙ sym q
