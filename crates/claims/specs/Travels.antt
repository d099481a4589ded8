-- A record that travels: reported, and its quantities coded by their own type, any number of times.
use Rattle.std.specs.Prelude.{◌≡◌, ℕ, zero, suc, ◌≤◌, Result, Ok, Err}
use Rattle.layout.specs.declared.shape.Shape.{Shape}
use Rattle.layout.specs.declared.velocity.Velocity.{Velocity}
use Rattle.quantities.specs.declared.shape.ShapeQuantities.{ShapeQuantities}
use Rattle.quantities.specs.declared.velocity.VelocityQuantities.{VelocityQuantities}
use Rattle.ground.specs.declared.refusals.Refusal.{Refusal}
use Rattle.quantities.specs.Shapes.{ReportsShape, CodesShape}
use Rattle.quantities.specs.Velocities.{ReportsVelocity, CodesVelocity}

-- the next answer: of a value what P says, and a refusal stays one
abbrev pub Then : {A B : Type 0} → (A → Result B Refusal → Type 0) → Result A Refusal → Result B Refusal → Type 0
Then P (Ok a) r = P a r
Then P (Err why) r = r ≡ Err why

-- from x, after n trips, the answer c: whatever a reporter and a coder that keep their promises may answer
pub data ShapeTravels (x : Shape) : ℕ → Result Shape Refusal → Type 0 where
  stays : {c : Result Shape Refusal} → c ≡ Ok x → ShapeTravels x zero c
  goes : {n : ℕ} {c d : Result Shape Refusal} → ShapeTravels x n c → (r : Result ShapeQuantities Refusal) → Then ReportsShape c r → Then CodesShape r d → ShapeTravels x (suc n) d

pub data VelocityTravels (x : Velocity) : ℕ → Result Velocity Refusal → Type 0 where
  stays : {c : Result Velocity Refusal} → c ≡ Ok x → VelocityTravels x zero c
  goes : {n : ℕ} {c d : Result Velocity Refusal} → VelocityTravels x n c → (r : Result VelocityQuantities Refusal) → Then ReportsVelocity c r → Then CodesVelocity r d → VelocityTravels x (suc n) d

-- the semi-minor code is not above the semi-major
abbrev pub AxesInOrder : Shape → Type 0
AxesInOrder x = x.semi_minor.0 ≤ x.semi_major.0
