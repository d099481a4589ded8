-- One answer: what the promises of reading and writing leave open is nothing.
use Rattle.std.specs.Prelude.{Result}
use Prim.Native.Nat.{ℕ}
use mathlib.Core.Path.{◌≡◌, ap, sym, ◌∙◌}
use mathlib.Core.List.{List, ◌++◌}
use lib.ListN.{length, drop}
use Rattle.ground.specs.Answers.{outcome_number, handed}
use Rattle.ground.proofs.AnswerLaws.{unless-one, zero_one, promised-one, value-told}
use Rattle.ground.specs.declared.refusals.Refusal.{Refusal}
use Rattle.layout.specs.declared.velocity.Velocity.{Velocity}
use Rattle.layout.specs.declared.shape.Shape.{Shape}
use Rattle.layout.specs.Layout.{MessageField, Row}
use Rattle.layout.specs.Rows.{length_of, message}
use Rattle.layout.specs.Demands.{ReadAnswer, WriteAnswer, CodesAnswer, Writes}
use Rattle.layout.specs.Shapes.{ReadsShape, rows_in, shape_in}
use Rattle.layout.specs.Velocities.{ReadsVelocity, velocity_rows_in, velocity_in}

pub read-answer-one : (rows : List Row) (s : List ℕ) (a b : ℕ) → ReadAnswer rows s a → ReadAnswer rows s b → a ≡ b
read-answer-one rows s =
    unless-one _ 1 _ (unless-one _ 2 _ (unless-one _ 4 _ (unless-one _ 3 _ (unless-one _ 5 _ (unless-one _ 6 _ zero_one)))))

pub write-answer-one : (rows : List Row) (value : MessageField → ℕ) (room a b : ℕ) → WriteAnswer rows value room a → WriteAnswer rows value room b → a ≡ b
write-answer-one rows value room =
    unless-one _ 2 _ (unless-one _ 4 _ (unless-one _ 5 _ (unless-one _ 6 _ (unless-one _ 7 _ (unless-one _ 10 _ zero_one)))))

pub write-outcome-one : (rows : List Row) (value : MessageField → ℕ) (room : ℕ) (r q : Result Unit Refusal) → WriteAnswer rows value room (outcome_number r) → WriteAnswer rows value room (outcome_number q) → r ≡ q
write-outcome-one rows value room = promised-one (WriteAnswer rows value room) (write-answer-one rows value room)

pub codes-outcome-one : (w x y z : ℕ) (r q : Result Unit Refusal) → CodesAnswer w x y z (outcome_number r) → CodesAnswer w x y z (outcome_number q) → r ≡ q
codes-outcome-one w x y z = promised-one (CodesAnswer w x y z) (unless-one _ 5 _ (unless-one _ 6 _ zero_one))

pub reads-shape-one : (s : List ℕ) (r q : Result Shape Refusal) → ReadsShape s r → ReadsShape s q → r ≡ q
reads-shape-one s r q a b =
    value-told (ReadAnswer (rows_in s) s) (read-answer-one (rows_in s) s) (λ x. x ≡ shape_in s) (λ x y e f. e ∙ sym f) r q a.answer b.answer a.shape b.shape

pub reads-velocity-one : (s : List ℕ) (r q : Result Velocity Refusal) → ReadsVelocity s r → ReadsVelocity s q → r ≡ q
reads-velocity-one s r q a b =
    value-told (ReadAnswer (velocity_rows_in s) s) (read-answer-one (velocity_rows_in s) s) (λ x. x ≡ velocity_in s) (λ x y e f. e ∙ sym f) r q a.answer b.answer a.velocity b.velocity

-- a record's answer and what the buffer then holds, for shapes and velocities
module _ (rows : List Row) (value : MessageField → ℕ) (before after after' : List ℕ) (r q : Result ℕ Refusal) (a : Writes rows value before after r) (b : Writes rows value before after' q) where
  pub writes_one : r ≡ q
  writes_one =
      value-told (WriteAnswer rows value (length before)) (write-answer-one rows value (length before)) (λ n. n ≡ length_of rows) (λ m n e f. e ∙ sym f) r q a.answer b.answer a.written b.written

  pub buffer-one : after ≡ after'
  buffer-one = a.buffer ∙ ap (λ (o : Result ℕ Refusal). handed o (message rows value ++ drop (length_of rows) before) before) writes_one ∙ sym b.buffer
