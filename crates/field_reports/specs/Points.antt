-- What is reported of a polygon's points.
use Rattle.std.specs.Prelude.{◌≡◌, List, ℕ, ◌≤◌, ◌<◌, length, get_or}
use Rattle.ground.specs.Answers.{done}
use Rattle.ground.specs.declared.code.LatitudeCode.{LatitudeCode}
use Rattle.ground.specs.declared.code.LongitudeCode.{LongitudeCode}
use Rattle.ground.specs.declared.quantity.Nanodegrees.{Nanodegrees}
use Rattle.fields.specs.Fields.{Reporting}
use Rattle.fields.specs.Fields as field
use Rattle.layout.specs.Shapes.{zero_latitude, zero_longitude}
use Rattle.quantities.specs.Shapes.{zero_degrees}

-- the first n of fifteen are as they are told, and the others zero
pub record Filled (told : ℕ → Nanodegrees → Type 0) (n : ℕ) (reported : List Nanodegrees) : Type 0 where
  pub fifteen : length reported ≡ 15
  pub each : (i : ℕ) → i < n → told i (get_or reported i zero_degrees)
  pub rest : (i : ℕ) → n ≤ i → get_or reported i zero_degrees ≡ zero_degrees

abbrev pub LatitudesReported : List LatitudeCode → ℕ → List Nanodegrees → Type 0
LatitudesReported codes = Filled (λ i x. Reporting field.latitude (get_or codes i zero_latitude) (done x))

abbrev pub LongitudesReported : List LongitudeCode → ℕ → List Nanodegrees → Type 0
LongitudesReported codes = Filled (λ i x. Reporting field.longitude (get_or codes i zero_longitude) (done x))
