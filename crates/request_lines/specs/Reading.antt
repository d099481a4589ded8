-- What is read from the fields of a request.
use Rattle.std.specs.Prelude.{List, ℕ, ℤ, Option, Some, None, Result, Ok, Err}
use Rattle.ground.specs.declared.quantity.Millimetres.{Millimetres}
use Rattle.ground.specs.declared.quantity.Nanodegrees.{Nanodegrees}
use Rattle.ground.specs.declared.quantity.PerCent.{PerCent}
use Rattle.ground.specs.declared.quantity.SignedMillimetres.{SignedMillimetres}
use Rattle.requests.specs.declared.Horizontal.{Horizontal}
use Rattle.requests.specs.declared.Horizontal.TheVariants as horizontal
use Rattle.request_lines.specs.declared.Unreadable.{Unreadable}
use Rattle.text.specs.LineFields.{IsAbsent, SaysSigned, SaysUnsigned, SaysConfidence}
use Rattle.request_lines.specs.Asking.{SaysAltitude, SaysHorizontal, SaysUncertainty}

-- what the field says, and unreadable where it says nothing of that sort
abbrev pub ReadsCoordinate : List ℕ → Result Nanodegrees Unreadable → Type 0
ReadsCoordinate f (Ok x) = SaysSigned 64 f x.0
ReadsCoordinate f (Err _) = (x : ℤ) → SaysSigned 64 f x → ⊥

abbrev pub ReadsAltitude : List ℕ → Result (Option SignedMillimetres) Unreadable → Type 0
ReadsAltitude f (Ok a) = SaysAltitude f a
ReadsAltitude f (Err _) = (a : Option SignedMillimetres) → SaysAltitude f a → ⊥

abbrev pub ReadsAmount : List ℕ → Result (Option ℕ) Unreadable → Type 0
ReadsAmount f (Ok (Some n)) = SaysUnsigned f n
ReadsAmount f (Ok None) = IsAbsent f
ReadsAmount f (Err _) = (IsAbsent f → ⊥) × ((n : ℕ) → SaysUnsigned f n → ⊥)

abbrev pub ReadsHorizontal : List ℕ → List ℕ → List ℕ → Result Horizontal Unreadable → Type 0
ReadsHorizontal f g h (Ok a) = SaysHorizontal f g h a
ReadsHorizontal f g h (Err _) = (a : Horizontal) → SaysHorizontal f g h a → ⊥

abbrev pub ReadsUncertainty : List ℕ → Result (Option Millimetres) Unreadable → Type 0
ReadsUncertainty f (Ok a) = SaysUncertainty f a
ReadsUncertainty f (Err _) = (a : Option Millimetres) → SaysUncertainty f a → ⊥

abbrev pub ReadsConfidence : List ℕ → Result (Option PerCent) Unreadable → Type 0
ReadsConfidence f (Ok a) = SaysConfidence f a
ReadsConfidence f (Err _) = (a : Option PerCent) → SaysConfidence f a → ⊥

-- a circle where semi-minor and orientation are absent, an ellipse where neither is, none where all is absent
abbrev pub area_given : Option ℕ → Option ℕ → Option ℕ → Result Horizontal Unreadable
area_given (Some R) (Some S) (Some a) = Ok (horizontal.Ellipse (record { 0 = R }) (record { 0 = S }) (record { 0 = a }))
area_given (Some R) (Some S) None = Err (record {})
area_given (Some R) None (Some a) = Err (record {})
area_given (Some R) None None = Ok (horizontal.Circle (record { 0 = R }))
area_given None (Some S) a = Err (record {})
area_given None None (Some a) = Err (record {})
area_given None None None = Ok horizontal.NotAsked

-- the same of what was read, unreadable where one of the three is
abbrev pub horizontal_of : Result (Option ℕ) Unreadable → Result (Option ℕ) Unreadable → Result (Option ℕ) Unreadable → Result Horizontal Unreadable
horizontal_of (Ok R) (Ok S) (Ok a) = area_given R S a
horizontal_of (Ok R) (Ok S) (Err u) = Err u
horizontal_of (Ok R) (Err u) a = Err u
horizontal_of (Err u) S a = Err u
