-- THE CHOICE of shape for one point, over all octet strings: demand 3.
use Rattle.std.specs.Prelude.{◌≡◌, List, [], ◌∷◌, ◌++◌, ℕ, ◌/◌, ◌%◌, ◌^◌, ◌≤◌, ◌<◌, length, drop, get_or, Option, Some, None, Result}
use Rattle.ground.specs.Answers.{outcome_number, value_or}
use Rattle.layout.specs.declared.shape.Kind.{Kind}
use Rattle.layout.specs.declared.shape.Kind.TheVariants.{Nothing, Point, Circle, Ellipse, Polygon, AltitudePoint, AltitudeEllipsoid, Arc}
use Rattle.ground.specs.declared.code.AltitudeUncertaintyCode.{AltitudeUncertaintyCode}
use Rattle.ground.specs.declared.refusals.Refusal.{Refusal}
use Rattle.layout.specs.declared.shape.Shape.{Shape}
use Rattle.layout.specs.Layout.{type_of}
use Rattle.layout.specs.Rows.{message}
use Rattle.layout.specs.Demands.{ReadAnswer}
use Rattle.layout.specs.Shapes.{rows_in, shape_in, rows_of, value_of}
use Rattle.requests.specs.declared.Request.{Request}
use Rattle.requests.specs.Ranges.{RequestInRange, RequestCovered}
use Rattle.requests.specs.Holding.{Area, circle, ellipse, no_area, area_had, altitude_uncertainty_had, Holds}

-- ---- which messages are looked at

-- only 0, 1, 3, 8, 9 take part
abbrev pub TakesPart : Kind → Type 0
TakesPart Nothing = ⊥
TakesPart Point = Unit {0}
TakesPart Circle = Unit {0}
TakesPart Ellipse = Unit {0}
TakesPart Polygon = ⊥
TakesPart AltitudePoint = Unit {0}
TakesPart AltitudeEllipsoid = Unit {0}
TakesPart Arc = ⊥

-- bit t of the receiver's list is set: it takes shape t
abbrev pub Listed : ℕ → Kind → Type 0
Listed list k = list / 2 ^ type_of k % 2 ≡ 1

-- Any octets, spare bits set or not, that can be read, are of a kind that takes part and is taken, and hold the request.
pub record Candidate (q : Request) (taken : Kind → Type 0) (s : List ℕ) : Type 0 where
  pub octets : (i : ℕ) → get_or s i 0 < 256
  pub readable : ReadAnswer (rows_in s) s 0
  pub part : TakesPart (shape_in s).kind
  pub listed : taken (shape_in s).kind
  pub holds : Holds q (shape_in s)

-- ---- which is better

-- the semi-major and the semi-minor code: a circle's one code counts as both axes
abbrev pub major_of : Area → ℕ
major_of (circle K) = K.0
major_of (ellipse K J N) = K.0
major_of no_area = 0

abbrev pub minor_of : Area → ℕ
minor_of (circle K) = K.0
minor_of (ellipse K J N) = J.0
minor_of no_area = 0

abbrev pub height_of : Option AltitudeUncertaintyCode → ℕ
height_of (Some K) = K.0
height_of None = 0

-- the first number that differs is smaller
pub data Before : List ℕ → List ℕ → Type 0 where
  here : {a b : ℕ} {m n : List ℕ} → a < b → Before (a ∷ m) (b ∷ n)
  later : {a b : ℕ} {m n : List ℕ} → a ≡ b → Before m n → Before (a ∷ m) (b ∷ n)

-- semi-major code, then semi-minor, then altitude uncertainty, then octets
abbrev pub rank : Shape → ℕ → List ℕ
rank x n = major_of (area_had (rows_of x) x) ∷ minor_of (area_had (rows_of x) x) ∷ height_of (altitude_uncertainty_had (rows_of x) x) ∷ n ∷ []

-- s is better than t
abbrev pub Better : List ℕ → List ℕ → Type 0
Better s t = Before (rank (shape_in s) (length s)) (rank (shape_in t) (length t))

-- s is a candidate, none is better, and it is what its own record writes
pub record Best (q : Request) (taken : Kind → Type 0) (s : List ℕ) : Type 0 where
  pub candidate : Candidate q taken s
  pub none_better : (t : List ℕ) → Candidate q taken t → Better t s → ⊥
  pub own : s ≡ message (rows_of (shape_in s)) (value_of (shape_in s))

-- ---- THE PROMISE

-- why there is no message, whatever the buffer, by the number of the answer
pub data Refuses (q : Request) (taken : Kind → Type 0) : ℕ → Type 0 where
  out_of_range : (RequestInRange q → ⊥) → Refuses q taken 7
  too_uncertain : RequestInRange q → (RequestCovered q → ⊥) → Refuses q taken 8
  none_holds : RequestInRange q → RequestCovered q → ((s : List ℕ) → Candidate q taken s → ⊥) → Refuses q taken 9

-- the answer's number, how many octets are written, and the buffer after
pub data Chosen (q : Request) (taken : Kind → Type 0) (before : List ℕ) : ℕ → ℕ → List ℕ → Type 0 where
  refuses : {n : ℕ} → Refuses q taken n → Chosen q taken before n 0 before
  too_short : {s : List ℕ} → RequestInRange q → RequestCovered q → Best q taken s → length before < length s → Chosen q taken before 10 0 before
  writes : {s : List ℕ} → RequestInRange q → RequestCovered q → Best q taken s → length s ≤ length before → Chosen q taken before 0 (length s) (s ++ drop (length s) before)

abbrev pub Chooses : Request → (Kind → Type 0) → List ℕ → List ℕ → Result ℕ Refusal → Type 0
Chooses q taken before after r = Chosen q taken before (outcome_number r) (value_or 0 r) after
