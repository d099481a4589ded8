-- DEMAND 2 in its own words: a message that is written again, a record that is read back and a code that travels keep what they
-- say. That any coder which keeps its promises meets it is a law (proofs/Demand2.antt).
use Rattle.std.specs.Prelude.{◌≡◌, List, ℕ, ◌≤◌, length, take, drop, Result, Ok}
use Rattle.ground.specs.declared.refusals.Refusal.{Refusal}
use Rattle.layout.specs.declared.shape.Shape.{Shape}
use Rattle.layout.specs.declared.velocity.Velocity.{Velocity}
use Rattle.layout.specs.Layout.{Row}
use Rattle.layout.specs.Messages.{in_row, IsMessage}
use Rattle.layout.specs.Shapes.{rows_in, Fifteen, ReadsShape, WritesShape}
use Rattle.layout.specs.Velocities.{velocity_rows_in, ReadsVelocity, WritesVelocity}
use Rattle.claims.specs.Travels.{ShapeTravels, VelocityTravels, AxesInOrder}

-- records of one sort, and what is promised of them
pub record Sort (R : Type 0) : Type 1 where
  -- the rows of a message
  pub rows : List ℕ → List Row
  -- these octets are read with that answer
  pub Reads : List ℕ → Result R Refusal → Type 0
  -- the record is written, with the buffer before and after
  pub Writes : R → List ℕ → List ℕ → Result ℕ Refusal → Type 0
  -- the record is reported and coded by its own type, so many times, with that answer
  pub Travels : R → ℕ → Result R Refusal → Type 0
  -- its arrays have all their elements, as those of every record of the code have
  pub Whole : R → Type 0
  -- what a trip asks of it
  pub InOrder : R → Type 0

-- The octets s, read and written again: done, with their length; each bit of a row as it was and each spare bit 0; the rest of the
-- buffer as it was.
pub record Again (rows : List Row) (s before after : List ℕ) (w : Result ℕ Refusal) : Type 0 where
  pub answer : w ≡ Ok (length s)
  pub message : IsMessage rows (in_row s) (take (length s) after)
  pub rest : drop (length s) after ≡ drop (length s) before

pub record Demand2 {R : Type 0} (sort : Sort R) : Type 0 where
  -- AGAIN: an accepted message, written again where there is room for it
  pub again : (s : List ℕ) (x : R) → sort.Reads s (Ok x) → (before after : List ℕ) (w : Result ℕ Refusal) → sort.Writes x before after w → length s ≤ length before → Again (sort.rows s) s before after w
  -- BACK: a record that is written, read from the octets of its message
  pub back : (x : R) → sort.Whole x → (before after : List ℕ) (n : ℕ) → sort.Writes x before after (Ok n) → (r : Result R Refusal) → sort.Reads (take n after) r → r ≡ Ok x
  -- KEPT: a record that is written and in order, reported and coded, however often
  pub kept : (x : R) → sort.Whole x → (before after : List ℕ) (n : ℕ) → sort.Writes x before after (Ok n) → sort.InOrder x → (m : ℕ) (r : Result R Refusal) → sort.Travels x m r → r ≡ Ok x

-- ---- the two sorts

abbrev pub shapes : Sort Shape
shapes = record {
  rows = rows_in;
  Reads = ReadsShape;
  Writes = WritesShape;
  Travels = ShapeTravels;
  Whole = Fifteen;
  InOrder = AxesInOrder;
}

abbrev pub velocities : Sort Velocity
velocities = record {
  rows = velocity_rows_in;
  Reads = ReadsVelocity;
  Writes = WritesVelocity;
  Travels = VelocityTravels;
  Whole = λ x. Unit {0};
  InOrder = λ x. Unit {0};
}
