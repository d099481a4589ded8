-- A record's answer, and the answer to it and the room for its message.
use Prim.Native.Nat.{ℕ, ◌≤◌, ◌<◌}
use mathlib.Core.Path.{refl}
use mathlib.Core.List.{List}
use native.Mathlib.Omega.{arith}
use Rattle.ground.specs.Answers.{number_of, unmet, met}
use Rattle.ground.specs.declared.refusals.Refusal.{Refusal}
use Rattle.ground.proofs.AnswerLaws.{not-0, when-done}
use Rattle.layout.specs.Layout.{MessageField, Row}
use Rattle.layout.specs.Rows.{length_of}
use Rattle.layout.specs.Demands.{WriteAnswer, Sound}
use Rattle.judging.specs.Judging.{RecordAnswer}
use Rattle.judging.proofs.DemandLaws.{next, passed}

module _ {rows : List Row} {value : MessageField → ℕ} where
  -- with room for the message the answer is the record's
  pub roomy : (m : ℕ) → RecordAnswer rows value m → WriteAnswer rows value (length_of rows) m
  roomy m = next (next (next (next (next (λ e. met (omega arith) e)))))

  pub with-room : (room : ℕ) → RecordAnswer rows value 0 → length_of rows ≤ room → WriteAnswer rows value room 0
  with-room room h l = next (next (next (next (next (λ e. met l e))))) h

  -- a refusal is for its own reason, whatever the room
  pub refused : (room : ℕ) (why : Refusal) → RecordAnswer rows value (number_of why) → WriteAnswer rows value room (number_of why)
  refused room why = next (next (next (next (next (λ e. absurd (not-0 why e))))))

  pub taken : RecordAnswer rows value 0 → Sound rows value
  taken h =
      let p = passed h in
      let q = when-done _ _ _ (λ e. absurd (omega arith)) p.4 in
      record { listed = p.0; counted = p.1; angles = p.2; sure = p.3; fields = q.0 }

  -- a record that is taken, and too little room
  pub no_room : (room : ℕ) → RecordAnswer rows value 0 → room < length_of rows → WriteAnswer rows value room 10
  no_room room h l =
      let t = taken h in
      met t.listed (met t.counted (met t.angles (met t.sure (met t.fields (unmet (λ m. absurd (omega arith)) refl)))))
