-- THE LINES of the coder's input, `code NAME QUANTITY` and `report NAME CODE..`, and what is printed for them.
use Rattle.std.specs.Prelude.{◌≡◌, List, [], ◌∷◌, ℕ, ℤ, length, Result}
use Rattle.ground.specs.declared.refusals.Refusal.{Refusal}
use Rattle.ground.specs.declared.said.SaidCode.{SaidCode}
use Rattle.ground.specs.declared.said.SaidQuantity.{SaidQuantity}
use Rattle.fields.specs.Fields.{Field, CodeOf, QuantityOf}
use Rattle.one_field.specs.Coding as coding
use Rattle.one_field.specs.Reporting as reporting
use Rattle.text.specs.LineFields.{fields_of}
use Rattle.text.specs.AnswerLines.{line_of_code, line_of_quantity}
use Rattle.text.specs.declared.said.SaidLine.{SaidLine}
use Rattle.text.specs.declared.said.SaidLine.TheVariants.{Unreadable, Refused}
use Rattle.one_field.specs.Coding.{count_of}
use Rattle.coder.specs.Written.{TextSays, WriteNumbers, numbers_of}
use Rattle.coder.specs.Names.{code_verb, report_verb, name_of}

-- `code NAME QUANTITY`, of a quantity that fits the width in which it arrives
pub record SaysQuantity (line : List ℕ) (f : Field) (x : QuantityOf f) : Type 0 where
  pub text : List ℕ
  pub fields : fields_of line ≡ code_verb ∷ name_of f ∷ text ∷ []
  pub writes : TextSays f text x

-- `report NAME CODE..`, of as many numbers as the field's codes have
pub record SaysNumbers (line : List ℕ) (f : Field) (zs : List ℤ) : Type 0 where
  pub texts : List (List ℕ)
  pub fields : fields_of line ≡ report_verb ∷ name_of f ∷ texts
  pub numbers : WriteNumbers texts zs
  pub count : length zs ≡ count_of f

-- ---- THE PROMISE

-- What the field's coder tells of the quantity, or its reporter of the code, which may be a number that does not fit its field. Numbers that are
-- no code, as a sign of 2 or a number below zero, are refused with 7. A line that says neither a quantity nor such numbers is unreadable.
pub data Answers (line : List ℕ) (r : SaidLine) : Type 0 where
  coded : {f : Field} {x : QuantityOf f} {said : Result SaidCode Refusal} → SaysQuantity line f x → coding.TellsCode f x said → r ≡ line_of_code said → Answers line r
  reported : {f : Field} {c : CodeOf f} {said : Result SaidQuantity Refusal} → SaysNumbers line f (numbers_of f c) → reporting.TellsQuantity f c said → r ≡ line_of_quantity said → Answers line r
  no_code : {f : Field} {zs : List ℤ} → SaysNumbers line f zs → ((c : CodeOf f) → numbers_of f c ≡ zs → ⊥) → r ≡ Refused 7 → Answers line r
  unreadable : ((f : Field) (x : QuantityOf f) → SaysQuantity line f x → ⊥) → ((f : Field) (zs : List ℤ) → SaysNumbers line f zs → ⊥) → r ≡ Unreadable → Answers line r
