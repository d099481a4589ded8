-- A message's text by what reading it answered: the record's, or the number of the refusal.
use Rattle.std.specs.Prelude.{Ok, Err}
use Prim.Native.Nat.{ℕ, zero, suc}
use mathlib.Core.Path.{◌≡◌, refl, sym, ap, ◌∙◌}
use mathlib.Core.List.{List}
use borrow.Author.Tests.{ne_eqb}
use Rattle.ground.specs.Answers.{number_of}
use Rattle.ground.specs.declared.refusals.Refusal.{Refusal}
use Rattle.ground.proofs.AnswerLaws.{not-0}
use Rattle.layout.specs.declared.velocity.Velocity.{Velocity}
use Rattle.layout.specs.declared.shape.Shape.{Shape}
use Rattle.text.specs.Text.{decimal}
use Rattle.layout.specs.Layout.{Row}
use Rattle.layout.specs.Demands.{ReadAnswer}
use Rattle.layout.specs.Shapes.{rows_in, shape_in, ReadsShape}
use Rattle.layout.specs.Velocities.{velocity_rows_in, velocity_in, ReadsVelocity}
use Rattle.layout.specs.ReadNumbers.{read_number}
use Rattle.layout.proofs.ReadNumberLaws.{read-number-is}
use Rattle.wording.specs.ShapeTexts.{shape_text}
use Rattle.wording.specs.VelocityTexts.{velocity_text}
use Rattle.wording.specs.Wording.{answer_text, message_text}

-- the answer of octets that were read by these rows
module _ (rows : List Row) (m t : List ℕ) where
  done-text : ReadAnswer rows m 0 → t ≡ answer_text (read_number rows m) t
  done-text a = ap (λ (n : ℕ). answer_text n t) (read-number-is rows m 0 a)

  refused-text : (why : Refusal) → ReadAnswer rows m (number_of why) → decimal (number_of why) ≡ answer_text (read_number rows m) t
  refused-text why a =
      let none : answer_text (number_of why) t ≡ decimal (number_of why) = rw (ne_eqb (number_of why) 0 (not-0 why)) in
      sym none ∙ ap (λ (n : ℕ). answer_text n t) (read-number-is rows m (number_of why) a)

module _ (m : List ℕ) where
  pub shape-done : (x : Shape) → ReadsShape m (Ok x) → shape_text x ≡ message_text 0 m
  unfolding message_text
  shape-done x h = ap shape_text h.shape ∙ done-text (rows_in m) m (shape_text (shape_in m)) h.answer

  pub shape-refused : (why : Refusal) → ReadsShape m (Err why) → decimal (number_of why) ≡ message_text 0 m
  unfolding message_text
  shape-refused why h = refused-text (rows_in m) m (shape_text (shape_in m)) why h.answer

  pub velocity-done : (x : Velocity) → ReadsVelocity m (Ok x) → velocity_text x ≡ message_text 1 m
  unfolding message_text
  velocity-done x h = ap velocity_text h.velocity ∙ done-text (velocity_rows_in m) m (velocity_text (velocity_in m)) h.answer

  pub velocity-refused : (why : Refusal) → ReadsVelocity m (Err why) → decimal (number_of why) ≡ message_text 1 m
  unfolding message_text
  velocity-refused why h = refused-text (velocity_rows_in m) m (velocity_text (velocity_in m)) why h.answer

-- each kind but 0 is a velocity
pub other-kind : (kind : ℕ) (m : List ℕ) → (kind ≡ 0 → ⊥) → message_text 1 m ≡ message_text kind m
unfolding message_text
other-kind zero m h = absurd (h refl)
other-kind (suc kind) m h = refl
