-- What an answer says: document 01's number, and on 0 the values.
use Rattle.std.specs.Prelude.{◌≡◌, Bool, true, false, [], ◌∷◌, ℕ, ◌-◌, get_or, Result, Ok, Err}
use Rattle.ground.specs.declared.refusals.Refusal.{Refusal}
use Rattle.ground.specs.declared.refusals.Refusal.TheVariants.{
  NoOctets,
  UnknownType,
  WrongLength,
  PolygonCount,
  AngleCode,
  ConfidenceTooLarge,
  OutOfRange,
  UncertaintyTooLarge,
  NoneHolds,
  BufferTooShort,
  FrameBroken,
}

abbrev pub number_of : Refusal → ℕ
number_of NoOctets = 1
number_of UnknownType = 2
number_of WrongLength = 3
number_of PolygonCount = 4
number_of AngleCode = 5
number_of ConfidenceTooLarge = 6
number_of OutOfRange = 7
number_of UncertaintyTooLarge = 8
number_of NoneHolds = 9
number_of BufferTooShort = 10
number_of FrameBroken = 11

-- the refusal of a number
abbrev pub refusal_of : ℕ → Refusal
refusal_of n =
    get_or (NoOctets ∷ UnknownType ∷ WrongLength ∷ PolygonCount ∷ AngleCode ∷ ConfidenceTooLarge ∷ OutOfRange ∷ UncertaintyTooLarge ∷ NoneHolds ∷ BufferTooShort ∷ FrameBroken ∷ []) (n - 1) FrameBroken

-- document 01's number of an answer
abbrev pub outcome_number : {V : Type 0} → Result V Refusal → ℕ
outcome_number (Ok v) = 0
outcome_number (Err why) = number_of why

-- what is handed back: the one thing when it is done, the other when it is refused
abbrev pub handed : {V A : Type 0} → Result V Refusal → A → A → A
handed (Ok v) a b = a
handed (Err why) a b = b

-- an answer without its value, and the value; of a refusal the one that stands for none
abbrev pub outcome_of : {V : Type 0} → Result V Refusal → Result Unit Refusal
outcome_of (Ok v) = Ok tt
outcome_of (Err why) = Err why

abbrev pub value_or : {V : Type 0} → V → Result V Refusal → V
value_or none (Ok v) = v
value_or none (Err why) = none

-- an answer without a value, and the value that goes with it
abbrev pub with_value : {V : Type 0} → Result Unit Refusal → V → Result V Refusal
with_value (Ok _) v = Ok v
with_value (Err why) v = Err why

-- The number m of an answer where demands are looked at in order: n if the first one is not met, else what the others give.
pub data Unless (demand : Type 0) (n : ℕ) (others : ℕ → Type 0) (m : ℕ) : Type 0 where
  unmet : (demand → ⊥) → m ≡ n → Unless demand n others m
  met : demand → others m → Unless demand n others m

-- no demand is left: 0
abbrev pub Else0 : ℕ → Type 0
Else0 m = m ≡ 0

-- what the answer of a test says of its question
abbrev pub Decides : Bool → Type 0 → Type 0
Decides true P = P
Decides false P = P → ⊥

-- 0 and the value, or the number of a refusal and nothing else
pub data Said (A : Type 0) : Type 0 where
  done : A → Said A
  refused : ℕ → Said A

-- what an answer says
abbrev pub said_of : {A : Type 0} → Result A Refusal → Said A
said_of (Ok a) = done a
said_of (Err why) = refused (number_of why)

-- The promise of a function that may refuse: 0 with a value that is right, or that number, for that reason.
abbrev pub Answer : {A : Type 0} → (A → Type 0) → ℕ → Type 0 → Said A → Type 0
Answer right number reason (done a) = right a
Answer right number reason (refused n) = (n ≡ number) × reason

-- The promise of a function that never refuses.
abbrev pub Always : {A : Type 0} → (A → Type 0) → Said A → Type 0
Always right = Answer right 0 ⊥

-- What an answer tells in plain numbers: the value's, or the refusal.
abbrev pub tells : {A B : Type 0} → (A → B) → Said A → Result B Refusal
tells numbers (done a) = Ok (numbers a)
tells numbers (refused n) = Err (refusal_of n)
