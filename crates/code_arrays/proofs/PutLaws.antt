-- What is put into an array, by its room; and only one answer and one array.
use Rattle.std.specs.Prelude.{Result, Ok, Err}
use mathlib.Core.Path.{◌≡◌, refl, sym, ◌∙◌}
use mathlib.Core.Bool.{Bool, true, false}
use mathlib.Core.List.{List, ◌++◌}
use Prim.Native.Nat.{ℕ, ◌≤◌, ◌<◌}
use native.Mathlib.Omega.{arith}
use lib.IntN.{ℤ}
use lib.ListN.{length, drop}
use lib.Dec.{ltb}
use borrow.Author.Tests.{ltb-false, lt-ltb, le-ltb}
use Rattle.ground.specs.Answers.{handed, with_value}
use Rattle.ground.specs.declared.refusals.Refusal.{Refusal}
use Rattle.ground.specs.declared.refusals.Refusal.TheVariants.{BufferTooShort}
use Rattle.code_arrays.specs.Answers.{answer_of, given_room, PutsElements, OfArray, too_short, long_enough}

refused-not-done : {why : Refusal} → ◌≡◌ {A = Result Unit Refusal} (Ok tt) (Err why) → ⊥
refused-not-done e = let z : ◌≡◌ {A = ℕ} 0 1 = cc in absurd (omega arith)

-- the room looked at
pub no_room : (wanted room : ℕ) → room < wanted → Err BufferTooShort ≡ given_room (Ok tt) wanted room
no_room wanted room h = simp (lt-ltb room wanted h)

pub has_room : (wanted room : ℕ) → wanted ≤ room → (Ok tt) ≡ given_room (Ok tt) wanted room
has_room wanted room h = simp (le-ltb room wanted h)

module _ {A : Type 0} {elements before after : List A} {n : ℤ} where
  -- by the outcome that is left when the room is looked at
  pub puts-by : {outcome left : Result Unit Refusal} → left ≡ given_room outcome (length elements) (length before) → n ≡ answer_of (with_value left (length elements))
      → after ≡ handed left (elements ++ drop (length elements) before) before → PutsElements outcome elements before after n
  puts-by e a b = record { answer = rw (← e) a; array = rw (← e) b }

-- one answer and one array
module _ {A : Type 0} {outcome other : Result Unit Refusal} {elements others before after after' : List A} {n n' : ℤ} (e : outcome ≡ other) (f : elements ≡ others) (p : PutsElements outcome elements before after n) (q : PutsElements other others before after' n') where
  pub puts-answer-one : n ≡ n'
  puts-answer-one = p.answer ∙ (let a = e in let b = f in let c = q.answer in cc)

  pub puts-array-one : after ≡ after'
  puts-array-one = p.array ∙ (let a = e in let b = f in let c = q.array in cc)

module _ {A B : Type 0} {elements : ℕ} {given : List A} {before after after' : List B} {n n' : ℤ} {said said' : Type 0} where
  pub of-array-one : OfArray elements given before after n said → OfArray elements given before after' n' said'
      → (said → said' → (n ≡ n') × (after ≡ after')) → (n ≡ n') × (after ≡ after')
  of-array-one (too_short h a b) (too_short h' a' b') one = (a ∙ sym a', b ∙ sym b')
  of-array-one (too_short h a b) (long_enough h' s) one = absurd (omega arith)
  of-array-one (long_enough h s) (too_short h' a b) one = absurd (omega arith)
  of-array-one (long_enough h s) (long_enough h' s') one = one s s'

-- what is done, the room looked at, has room
pub had-room : (outcome : Result Unit Refusal) (wanted room : ℕ) → (Ok tt) ≡ given_room outcome wanted room → wanted ≤ room
had-room (Ok _) wanted room e = by (ltb room wanted) refl
  where
    by : (t : Bool) → ltb room wanted ≡ t → wanted ≤ room
    by true h = absurd (refused-not-done {why = BufferTooShort} (e ∙ simp h))
    by false h = ltb-false room wanted h
had-room (Err why) wanted room e = absurd (refused-not-done e)
