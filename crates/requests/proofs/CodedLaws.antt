-- What a field's coder leaves of a quantity: a code of the field, and then no refusal.
use Rattle.std.specs.Prelude.{Some, None}
use Prim.Native.Nat.{ℕ}
use native.Mathlib.Omega.{arith}
use Rattle.ground.specs.Answers.{done, refused}
use Rattle.ground.proofs.AnswerLaws.{done-not-refused}
use Rattle.fields.specs.Fields.{Field, CodeOf, QuantityOf, Coding}
use Rattle.fields.specs.Fields as field
use Rattle.fields.specs.Quantities.{Held}
use Rattle.fields.proofs.OneAnswer.{coding-one}

-- what has a code is not refused
pub coded-never : (f : Field) (x : QuantityOf f) (c : CodeOf f) (n : ℕ) → Coding f x (done c) → Coding f x (refused n) → ⊥
coded-never f x c n p q = done-not-refused (coding-one f x (done c) (refused n) p q)

-- the code of a quantity is one that its field holds
pub coded-held : (f : Field) (x : QuantityOf f) (c : CodeOf f) → Coding f x (done c) → Held f c
coded-held field.latitude x c p = omega (arith, p.size.bits)
coded-held field.longitude x c p = omega (arith, p.bits)
coded-held field.uncertainty x c p = omega (arith, p.code)
coded-held field.altitude_uncertainty x c p = omega (arith, p.code)
coded-held field.altitude x c p = omega (arith, p.size.code)
coded-held field.inner_radius x c p = omega (arith, p.code)
coded-held field.offset x c p = omega (arith, p.code)
coded-held field.included x c p = omega (arith, p.code)
coded-held field.orientation x c p = omega (arith, p.code)
coded-held field.bearing x c p = omega (arith, p.code)
coded-held field.horizontal_speed x c p = omega (arith, p.code)
coded-held field.vertical_speed x c p = omega (arith, p.size.code)
coded-held field.uncertainty_speed (Some s) c p = omega (arith, p.code)
coded-held field.uncertainty_speed None c p = omega arith
coded-held field.confidence (Some n) c p = omega (arith, p.itself, p.most)
coded-held field.confidence None c p = omega arith
