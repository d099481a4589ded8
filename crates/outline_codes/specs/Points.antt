-- The codes of a polygon's points.
use Rattle.std.specs.Prelude.{◌≡◌, Bool, true, false, List, ℕ, ltb, length, get_or, replicate, Result}
use Rattle.ground.specs.Answers.{done, said_of, Answer}
use Rattle.ground.specs.declared.code.LatitudeCode.{LatitudeCode}
use Rattle.ground.specs.declared.code.LongitudeCode.{LongitudeCode}
use Rattle.ground.specs.declared.quantity.Nanodegrees.{Nanodegrees}
use Rattle.ground.specs.declared.refusals.Refusal.{Refusal}
use Rattle.fields.specs.Fields.{Coding}
use Rattle.fields.specs.Fields as field
use Rattle.layout.specs.Shapes.{zero_latitude, zero_longitude}
use Rattle.quantities.specs.Shapes.{zero_degrees}
use Rattle.outline_codes.specs.declared.points.Points.{Points}
use Rattle.outline_codes.specs.declared.points.PointCode.{PointCode}

-- a point that is used is in range, and one that isn't is zero
pub record PointKept (used : Bool) (x y : Nanodegrees) : Type 0 where
  pub latitudes : used ≡ true → field.OutOfRange field.latitude x → ⊥
  pub longitudes : used ≡ true → field.OutOfRange field.longitude y → ⊥
  pub no_latitudes : used ≡ false → x ≡ zero_degrees
  pub no_longitudes : used ≡ false → y ≡ zero_degrees

pub record PointCodes (used : Bool) (x y : Nanodegrees) (c : LatitudeCode) (d : LongitudeCode) : Type 0 where
  pub latitudes : used ≡ true → Coding field.latitude x (done c)
  pub longitudes : used ≡ true → Coding field.longitude y (done d)
  pub no_latitudes : used ≡ false → (x ≡ zero_degrees) × (c ≡ zero_latitude)
  pub no_longitudes : used ≡ false → (y ≡ zero_degrees) × (d ≡ zero_longitude)

abbrev pub CodesPoint : Bool → Nanodegrees → Nanodegrees → Result PointCode Refusal → Type 0
CodesPoint used x y r = Answer (λ (p : PointCode). PointCodes used x y p.latitude p.longitude) 7 (PointKept used x y → ⊥) (said_of r)

-- the first n are used
abbrev pub PointsKept : List Nanodegrees → List Nanodegrees → ℕ → Type 0
PointsKept xs ys n = (i : ℕ) → PointKept (ltb i n) (get_or xs i zero_degrees) (get_or ys i zero_degrees)

pub record PointsCodes (xs ys : List Nanodegrees) (n : ℕ) (r : Points) : Type 0 where
  pub all_latitudes : length r.latitudes ≡ 15
  pub all_longitudes : length r.longitudes ≡ 15
  pub each : (i : ℕ) → PointCodes (ltb i n) (get_or xs i zero_degrees) (get_or ys i zero_degrees) (get_or r.latitudes i zero_latitude) (get_or r.longitudes i zero_longitude)

-- fifteen points whose codes are zero
abbrev pub blank_points : Points
blank_points = record { latitudes = replicate 15 zero_latitude; longitudes = replicate 15 zero_longitude }

abbrev pub CodesPoints : List Nanodegrees → List Nanodegrees → ℕ → Result Points Refusal → Type 0
CodesPoints xs ys n r = Answer (PointsCodes xs ys n) 7 (PointsKept xs ys n → ⊥) (said_of r)
