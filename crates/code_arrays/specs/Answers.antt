-- WHAT A FUNCTION OF THE LIBRARY HANDS BACK.
use Rattle.std.specs.Prelude.{◌≡◌, cond, List, ◌++◌, ℕ, ◌-◌, ◌<◌, ◌≤◌, ltb, ℤ, pos, negsuc, length, drop, Result, Ok, Err}
use Rattle.ground.specs.Answers.{number_of, handed, with_value}
use Rattle.ground.specs.declared.refusals.Refusal.TheVariants.{OutOfRange, BufferTooShort}
use Rattle.ground.specs.declared.refusals.Refusal.{Refusal}

-- how many elements or octets are put, or minus the number of the refusal (`negsuc k` is -(k + 1))
abbrev pub answer_of : Result ℕ Refusal → ℤ
answer_of (Ok put) = pos put
answer_of (Err why) = negsuc (number_of why - 1)

-- 10 where what is done has no room
abbrev pub given_room : Result Unit Refusal → ℕ → ℕ → Result Unit Refusal
given_room (Ok _) wanted room = cond (ltb room wanted) (Err BufferTooShort) (Ok tt)
given_room (Err why) wanted room = Err why

-- 7 where nothing comes before it
abbrev pub else_out_of_range : Result Unit Refusal → Result Unit Refusal
else_out_of_range (Ok _) = Err OutOfRange
else_out_of_range (Err why) = Err why

-- An answer's elements are put into the first of an array, and its others stay; a refusal, 10 among them, changes none.
pub record PutsElements {A : Type 0} (outcome : Result Unit Refusal) (elements before after : List A) (n : ℤ) : Type 0 where
  pub answer : n ≡ answer_of (with_value (given_room outcome (length elements) (length before)) (length elements))
  pub array : after ≡ handed (given_room outcome (length elements) (length before)) (elements ++ drop (length elements) before) before

-- Of an array that is given: one that is shorter than its layout is refused with 3; of another it is said, by its first elements.
pub data OfArray {A B : Type 0} (elements : ℕ) (given : List A) (before after : List B) (n : ℤ) (said : Type 0) : Type 0 where
  too_short : length given < elements → n ≡ negsuc 2 → after ≡ before → OfArray elements given before after n said
  long_enough : elements ≤ length given → said → OfArray elements given before after n said
