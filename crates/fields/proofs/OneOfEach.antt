-- One answer of every public function, in its own type: what an answer says tells which it is, and its promise leaves one thing to say.
use mathlib.Core.Path.{◌≡◌}
use Rattle.ground.proofs.AnswerLaws.{said-one, answer-one}
use Rattle.fields.specs.Fields.{Field, CodeOf, QuantityOf, Coding, Reporting, CodedOf, said_code, ReportedOf, said_quantity}
use Rattle.fields.specs.Fields as field
use Rattle.fields.proofs.OneAnswer.{coding-one, reporting-one}

said_code-one : (f : Field) (a b : CodedOf f) → said_code f a ≡ said_code f b → a ≡ b
said_code-one field.latitude a b e = answer-one a b e
said_code-one field.longitude a b e = answer-one a b e
said_code-one field.uncertainty a b e = answer-one a b e
said_code-one field.altitude_uncertainty a b e = answer-one a b e
said_code-one field.altitude a b e = said-one e
said_code-one field.inner_radius a b e = said-one e
said_code-one field.offset a b e = answer-one a b e
said_code-one field.included a b e = answer-one a b e
said_code-one field.orientation a b e = answer-one a b e
said_code-one field.bearing a b e = answer-one a b e
said_code-one field.horizontal_speed a b e = said-one e
said_code-one field.vertical_speed a b e = said-one e
said_code-one field.uncertainty_speed a b e = answer-one a b e
said_code-one field.confidence a b e = answer-one a b e

said_quantity-one : (f : Field) (a b : ReportedOf f) → said_quantity f a ≡ said_quantity f b → a ≡ b
said_quantity-one field.latitude a b e = answer-one a b e
said_quantity-one field.longitude a b e = answer-one a b e
said_quantity-one field.uncertainty a b e = answer-one a b e
said_quantity-one field.altitude_uncertainty a b e = answer-one a b e
said_quantity-one field.altitude a b e = answer-one a b e
said_quantity-one field.inner_radius a b e = said-one e
said_quantity-one field.offset a b e = answer-one a b e
said_quantity-one field.included a b e = answer-one a b e
said_quantity-one field.orientation a b e = answer-one a b e
said_quantity-one field.bearing a b e = answer-one a b e
said_quantity-one field.horizontal_speed a b e = said-one e
said_quantity-one field.vertical_speed a b e = said-one e
said_quantity-one field.uncertainty_speed a b e = said-one e
said_quantity-one field.confidence a b e = answer-one a b e

-- ---- the two laws: each promise of a coder, and of a reporter, is met by one answer

pub coded-one : (f : Field) (x : QuantityOf f) (a b : CodedOf f) → Coding f x (said_code f a) → Coding f x (said_code f b) → a ≡ b
coded-one f x a b p q = said_code-one f a b (coding-one f x (said_code f a) (said_code f b) p q)

pub reported-one : (f : Field) (c : CodeOf f) (a b : ReportedOf f) → Reporting f c (said_quantity f a) → Reporting f c (said_quantity f b) → a ≡ b
reported-one f c a b p q = said_quantity-one f a b (reporting-one f c (said_quantity f a) (said_quantity f b) p q)
