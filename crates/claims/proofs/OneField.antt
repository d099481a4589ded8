-- Of one field one thing is said: a number is of one field or none, an element says one quantity or none, and a code's elements one code
-- or none.
use Rattle.std.specs.Prelude.{Option, Some, None, Result}
use Prim.Native.Nat.{ℕ, ◌≤◌}
use mathlib.Core.Path.{◌≡◌, sym, ap, subst, ◌∙◌}
use mathlib.Core.List.{List}
use native.Mathlib.Omega.{arith}
use lib.IntN.{ℤ}
use lib.ListN.{length}
use Rattle.ground.specs.declared.refusals.Refusal.{Refusal}
use Rattle.ground.specs.declared.said.SaidCode.{SaidCode}
use Rattle.ground.specs.declared.said.SaidQuantity.{SaidQuantity}
use Rattle.ground.specs.declared.quantity.PerCent.{PerCent}
use Rattle.ground.specs.declared.quantity.MetresPerHour.{MetresPerHour}
use Rattle.fields.specs.Fields.{Field, CodeOf, QuantityOf}
use Rattle.fields.specs.Fields as field
use Rattle.fields.specs.Places.{place_of}
use Rattle.fields.proofs.PlaceLaws.{place-one, past-places}
use Rattle.one_field.specs.Coding as coding
use Rattle.one_field.specs.Coding.{count_of}
use Rattle.one_field.proofs.OneCode.{tells-code-one}
use Rattle.one_field.specs.Reporting as reporting
use Rattle.one_field.proofs.OneQuantity.{tells-quantity-one}
use Rattle.field_arrays.specs.Fields.{IsNatural, IsSigned, IsUncertaintySpeed, IsConfidence, QuantityArrives, CodesElement, outside, CodesField, IsCode, SaysCode, ReportsElements, too_short, no_code, ReportsField}
use Rattle.field_arrays.specs.Fields as single
use Rattle.claims.proofs.OneRequest.{by_number, confidence_in}

-- ---- the field of a number

field-one : {n : ℕ} (f g : Field) → place_of f ≡ n → place_of g ≡ n → f ≡ g
field-one f g d e = place-one f g (d ∙ sym e)

-- ---- the quantity in an element

natural-one : {z : ℤ} {n m : ℕ} → IsNatural z n → IsNatural z m → n ≡ m
natural-one s t = cc

signed-one : {z x y : ℤ} → IsSigned z x → IsSigned z y → x ≡ y
signed-one s t = cc

abbrev speed_in : ℤ → Option MetresPerHour
speed_in = by_number (λ n. Some (record { 0 = n })) None

speed-back : (z : ℤ) (x : Option MetresPerHour) → IsUncertaintySpeed z x → speed_in z ≡ x
speed-back z (Some s) i = ap speed_in i.number
speed-back z None i = ap speed_in i

confidence-back : (z : ℤ) (x : Option PerCent) → IsConfidence z x → confidence_in z ≡ x
confidence-back z (Some p) i = ap confidence_in i.number
confidence-back z None i = ap confidence_in i

quantity-one : (f : Field) (z : ℤ) (x y : QuantityOf f) → QuantityArrives f z x → QuantityArrives f z y → x ≡ y
quantity-one field.latitude z x y s t = λ i. record { 0 = (sym s ∙ t) i }
quantity-one field.longitude z x y s t = λ i. record { 0 = (sym s ∙ t) i }
quantity-one field.uncertainty z x y s t = λ i. record { 0 = natural-one s t i }
quantity-one field.altitude_uncertainty z x y s t = λ i. record { 0 = natural-one s t i }
quantity-one field.altitude z x y s t = λ i. record { 0 = signed-one s t i }
quantity-one field.inner_radius z x y s t = λ i. record { 0 = natural-one s t i }
quantity-one field.offset z x y s t = λ i. record { 0 = natural-one s t i }
quantity-one field.included z x y s t = λ i. record { 0 = natural-one s t i }
quantity-one field.orientation z x y s t = λ i. record { 0 = natural-one s t i }
quantity-one field.bearing z x y s t = λ i. record { 0 = natural-one s t i }
quantity-one field.horizontal_speed z x y s t = λ i. record { 0 = natural-one s t i }
quantity-one field.vertical_speed z x y s t = λ i. record { 0 = signed-one s t i }
quantity-one field.uncertainty_speed z x y s t = sym (speed-back z x s) ∙ speed-back z y t
quantity-one field.confidence z x y s t = sym (confidence-back z x s) ∙ confidence-back z y t

-- ---- the code in elements, which are enough

code_one : {elements : List ℕ} {n m : ℕ} → IsCode elements n → IsCode elements m → n ≡ m
code_one s t = s.number ∙ sym t.number

saying : (f : Field) (elements : List ℕ) (c d : CodeOf f) → SaysCode f elements c → SaysCode f elements d → (c ≡ d) × (count_of f ≤ length elements)
saying field.latitude elements c d s t = (λ i. record { 0 = (s.sign ∙ sym t.sign) i; 1 = (s.number ∙ sym t.number) i }, s.both)
saying field.longitude elements c d s t = (λ i. record { 0 = (s.number ∙ sym t.number) i }, s.one)
saying field.uncertainty elements c d s t = (λ i. record { 0 = code_one s t i }, s.one)
saying field.altitude_uncertainty elements c d s t = (λ i. record { 0 = code_one s t i }, s.one)
saying field.altitude elements c d s t = (λ i. record { 0 = (s.sign ∙ sym t.sign) i; 1 = (s.number ∙ sym t.number) i }, s.both)
saying field.inner_radius elements c d s t = (λ i. record { 0 = code_one s t i }, s.one)
saying field.offset elements c d s t = (λ i. record { 0 = code_one s t i }, s.one)
saying field.included elements c d s t = (λ i. record { 0 = code_one s t i }, s.one)
saying field.orientation elements c d s t = (λ i. record { 0 = code_one s t i }, s.one)
saying field.bearing elements c d s t = (λ i. record { 0 = code_one s t i }, s.one)
saying field.horizontal_speed elements c d s t = (λ i. record { 0 = code_one s t i }, s.one)
saying field.vertical_speed elements c d s t = (λ i. record { 0 = (s.sign ∙ sym t.sign) i; 1 = (s.number ∙ sym t.number) i }, s.both)
saying field.uncertainty_speed elements c d s t = (λ i. record { 0 = code_one s t i }, s.one)
saying field.confidence elements c d s t = (λ i. record { 0 = code_one s t i }, s.one)

-- ---- what is said

codes-element-one : {f : Field} {z : ℤ} {a b : Result SaidCode Refusal} → CodesElement f z a → CodesElement f z b → a ≡ b
codes-element-one (outside h e) (outside h' e') = e ∙ sym e'
codes-element-one (outside h e) (single.coded {x = x} s t) = absurd (h x s)
codes-element-one (single.coded {x = x} s t) (outside h e) = absurd (h x s)
codes-element-one {f} {z} {a} {b} (single.coded {x = x} s t) (single.coded {x = y} s' t') =
    tells-code-one f x a b t (subst (λ (w : QuantityOf f). coding.TellsCode f w b) (quantity-one f z y x s' s) t')

pub codes-field-one : {n : ℕ} {z : ℤ} {a b : Result SaidCode Refusal} → CodesField n z a → CodesField n z b → a ≡ b
codes-field-one (single.no_field h e) (single.no_field h' e') = e ∙ sym e'
codes-field-one (single.no_field h e) (single.of_field {f = f} d c) = absurd (past-places f h d)
codes-field-one (single.of_field {f = f} d c) (single.no_field h e) = absurd (past-places f h d)
codes-field-one {z = z} {b = b} (single.of_field {f = f} d c) (single.of_field {f = g} e c') = codes-element-one c (subst (λ (k : Field). CodesElement k z b) (field-one g f e d) c')

reports-elements-one : {f : Field} {elements : List ℕ} {a b : Result SaidQuantity Refusal} → ReportsElements f elements a → ReportsElements f elements b → a ≡ b
reports-elements-one (too_short h e) (too_short h' e') = e ∙ sym e'
reports-elements-one (too_short h e) (no_code l h' e') = absurd (omega arith)
reports-elements-one {f} {elements} (too_short h e) (single.reported {c = c} s t) = absurd (omega (arith, (saying f elements c c s s).1))
reports-elements-one (no_code l h e) (too_short h' e') = absurd (omega arith)
reports-elements-one (no_code l h e) (no_code l' h' e') = e ∙ sym e'
reports-elements-one (no_code l h e) (single.reported {c = c} s t) = absurd (h c s)
reports-elements-one {f} {elements} (single.reported {c = c} s t) (too_short h e) = absurd (omega (arith, (saying f elements c c s s).1))
reports-elements-one (single.reported {c = c} s t) (no_code l h e) = absurd (h c s)
reports-elements-one {f} {elements} {a} {b} (single.reported {c = c} s t) (single.reported {c = d} s' t') =
    tells-quantity-one f c a b t (subst (λ (k : CodeOf f). reporting.TellsQuantity f k b) (saying f elements d c s' s).0 t')

pub reports-field-one : {n : ℕ} {elements : List ℕ} {a b : Result SaidQuantity Refusal} → ReportsField n elements a → ReportsField n elements b → a ≡ b
reports-field-one (single.no_field h e) (single.no_field h' e') = e ∙ sym e'
reports-field-one (single.no_field h e) (single.of_field {f = f} d c) = absurd (past-places f h d)
reports-field-one (single.of_field {f = f} d c) (single.no_field h e) = absurd (past-places f h d)
reports-field-one {elements = elements} {b = b} (single.of_field {f = f} d c) (single.of_field {f = g} e c') =
    reports-elements-one c (subst (λ (k : Field). ReportsElements k elements b) (field-one g f e d) c')
