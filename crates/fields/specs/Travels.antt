-- A code that travels: reported, and the reported quantity coded afresh, any number of times.
use Rattle.std.specs.Prelude.{ℕ, zero, suc}
use Rattle.ground.specs.Answers.{Said, done}
use Rattle.fields.specs.Fields.{Field, CodeOf, QuantityOf, Coding, Reporting}

-- from code c, after n trips, the answer a: whatever a coder and a reporter that keep their promises may say
pub data Travels (f : Field) : ℕ → CodeOf f → Said (CodeOf f) → Type 0 where
  stays : {c : CodeOf f} → Travels f zero c (done c)
  goes : {n : ℕ} {c d : CodeOf f} {a : Said (CodeOf f)} → Travels f n c (done d) → (x : QuantityOf f) → Reporting f d (done x) → Coding f x a → Travels f (suc n) c a
