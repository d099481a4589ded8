-- One answer: what a promise of the shape `Answer` leaves open; demands that are looked at in order; what a test decides.
--
use mathlib.Core.Path.{◌≡◌, refl, sym, ap, ◌∙◌}
use mathlib.Core.Bool.{Bool, true, false, not}
use Prim.Native.Nat.{ℕ}
use native.Mathlib.Omega.{arith}
use Rattle.ground.specs.Answers.{number_of, refusal_of, outcome_number, Unless, unmet, met, Else0, Decides, Said, done, refused, said_of, Answer}
use Rattle.std.specs.Prelude.{Result, Ok, Err, IfOk}
use Rattle.ground.specs.declared.refusals.Refusal.{Refusal}
use Rattle.ground.specs.declared.refusals.Refusal.TheVariants.{NoOctets, UnknownType, WrongLength, PolygonCount, AngleCode, ConfidenceTooLarge, OutOfRange, UncertaintyTooLarge, NoneHolds, BufferTooShort, FrameBroken}

-- one value is right, and none where there is the reason to refuse
module _ {A : Type 0} (right : A → Type 0) (number : ℕ) (reason : Type 0) (one : (a b : A) → right a → right b → a ≡ b) (apart : (a : A) → right a → reason → ⊥) where
  pub one_answer : (a b : Said A) → Answer right number reason a → Answer right number reason b → a ≡ b
  one_answer (done a) (done b) p q = ap done (one a b p q)
  one_answer (done a) (refused n) p q = absurd (apart a p q.1)
  one_answer (refused m) (done b) p q = absurd (apart b q p.1)
  one_answer (refused m) (refused n) p q = ap refused (p.0 ∙ sym q.0)

-- what is said on 0 is told by its value
pub said-one : {A : Type 0} {a b : A} → ◌≡◌ {A = Said A} (done a) (done b) → a ≡ b
said-one e = cc

pub done-not-refused : {A : Type 0} {a : A} {n : ℕ} → ◌≡◌ {A = Said A} (done a) (refused n) → ⊥
done-not-refused e = let z : ◌≡◌ {A = ℕ} 0 1 = cc in omega arith

pub refused-one : {A : Type 0} {m n : ℕ} → ◌≡◌ {A = Said A} (refused m) (refused n) → m ≡ n
refused-one e = cc

pub refusal-back : (why : Refusal) → refusal_of (number_of why) ≡ why
refusal-back NoOctets = refl
refusal-back UnknownType = refl
refusal-back WrongLength = refl
refusal-back PolygonCount = refl
refusal-back AngleCode = refl
refusal-back ConfidenceTooLarge = refl
refusal-back OutOfRange = refl
refusal-back UncertaintyTooLarge = refl
refusal-back NoneHolds = refl
refusal-back BufferTooShort = refl
refusal-back FrameBroken = refl

-- an answer that can be found again from what it says is told by that
pub told-by : {E S : Type 0} (said : E → S) (back : S → E) → ((r : E) → back (said r) ≡ r) → (a b : E) → said a ≡ said b → a ≡ b
told-by said back same a b e = sym (same a) ∙ ap back e ∙ same b

pub not-0 : (why : Refusal) → number_of why ≡ 0 → ⊥
not-0 NoOctets e = absurd (omega arith)
not-0 UnknownType e = absurd (omega arith)
not-0 WrongLength e = absurd (omega arith)
not-0 PolygonCount e = absurd (omega arith)
not-0 AngleCode e = absurd (omega arith)
not-0 ConfidenceTooLarge e = absurd (omega arith)
not-0 OutOfRange e = absurd (omega arith)
not-0 UncertaintyTooLarge e = absurd (omega arith)
not-0 NoneHolds e = absurd (omega arith)
not-0 BufferTooShort e = absurd (omega arith)
not-0 FrameBroken e = absurd (omega arith)

-- an outcome is told by its number
pub outcome-one : (a b : Result Unit Refusal) → outcome_number a ≡ outcome_number b → a ≡ b
outcome-one (Ok _) (Ok _) e = refl
outcome-one (Ok _) (Err why) e = absurd (not-0 why (sym e))
outcome-one (Err why) (Ok _) e = absurd (not-0 why e)
outcome-one (Err a) (Err b) e = ap Err (told-by number_of refusal_of refusal-back a b e)

-- a promise that leaves one number leaves one outcome
pub promised-one : (promise : ℕ → Type 0) → ((a b : ℕ) → promise a → promise b → a ≡ b) → (r q : Result Unit Refusal) → promise (outcome_number r) → promise (outcome_number q) → r ≡ q
promised-one promise one r q p o = outcome-one r q (one (outcome_number r) (outcome_number q) p o)

-- an answer is told by what it says
pub answer-one : {A : Type 0} (a b : Result A Refusal) → said_of a ≡ said_of b → a ≡ b
answer-one (Ok a) (Ok b) e = ap Ok (said-one e)
answer-one (Ok a) (Err why) e = absurd (done-not-refused e)
answer-one (Err why) (Ok b) e = absurd (done-not-refused (sym e))
answer-one (Err a) (Err b) e = ap Err (told-by number_of refusal_of refusal-back a b (refused-one e))

-- a promise that leaves one number, and one value of that answer, leaves one answer
module _ {A : Type 0} (promise : ℕ → Type 0) (number-one : (a b : ℕ) → promise a → promise b → a ≡ b) (value : A → Type 0) (value-one : (x y : A) → value x → value y → x ≡ y) where
  pub value-told : (r q : Result A Refusal) → promise (outcome_number r) → promise (outcome_number q) → IfOk r value → IfOk q value → r ≡ q
  value-told (Ok x) (Ok y) p o v w = ap Ok (value-one x y v w)
  value-told (Ok x) (Err why) p o v w = absurd (not-0 why (sym (number-one _ _ p o)))
  value-told (Err why) (Ok y) p o v w = absurd (not-0 why (number-one _ _ p o))
  value-told (Err a) (Err b) p o v w = ap Err (told-by number_of refusal_of refusal-back a b (number-one _ _ p o))

-- with no demand left there is one number
pub zero_one : (a b : ℕ) → Else0 a → Else0 b → a ≡ b
zero_one a b e f = e ∙ sym f

module _ (demand : Type 0) (n : ℕ) (others : ℕ → Type 0) where
  -- demands that are looked at in order give one number
  pub unless-one : ((a b : ℕ) → others a → others b → a ≡ b) → (a b : ℕ) → Unless demand n others a → Unless demand n others b → a ≡ b
  unless-one rest a b (unmet p e) (unmet q f) = e ∙ sym f
  unless-one rest a b (unmet p e) (met q f) = absurd (p q)
  unless-one rest a b (met p e) (unmet q f) = absurd (q p)
  unless-one rest a b (met p e) (met q f) = rest a b e f

  -- 0 is given where the demand is met
  pub when-done : (n ≡ 0 → ⊥) → Unless demand n others 0 → demand × others 0
  when-done z (unmet p e) = absurd (z (sym e))
  when-done z (met p e) = (p, e)

-- a demand in other words, and other demands after it
module _ {P Q : Type 0} {n : ℕ} {A B : ℕ → Type 0} {m : ℕ} (to : P → Q) (from : Q → P) (others : A m → B m) where
  pub unless-as : Unless P n A m → Unless Q n B m
  unless-as (unmet p e) = unmet (λ q. p (from q)) e
  unless-as (met p e) = met (to p) (others e)

-- what a test `if !decides(..)` shows where it is passed, and where it is not
pub shown : {P : Type 0} (b : Bool) → not b ≡ false → Decides b P → P
shown true e h = h
shown false e h = let z : ◌≡◌ {A = ℕ} 0 1 = cc in absurd (omega arith)

pub refuted : {P : Type 0} (b : Bool) → not b ≡ true → Decides b P → P → ⊥
refuted true e h = let z : ◌≡◌ {A = ℕ} 0 1 = cc in absurd (omega arith)
refuted false e h = h

pub decided : {P Q : Type 0} (b : Bool) → (P → Q) → (Q → P) → Decides b P → Decides b Q
decided true f g d = f d
decided false f g d = λ q. d (g q)
