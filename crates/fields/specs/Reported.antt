-- Document 01's column "Quantity reported", in its own words. That a report is what the column says is a law (`proofs/Column.antt`).
use Rattle.std.specs.Prelude.{◌≡◌, ℕ, ◌+◌, ◌*◌, ◌≤◌, ℤ, pos, negsuc, Bool, true, Some, None}
use Rattle.ground.specs.Signs.{signed}
use Rattle.ground.specs.Sets.{NearestOf, LowestOf}
use Rattle.coordinates.specs.Latitude.{LatitudeSet}
use Rattle.coordinates.specs.Longitude.{LongitudeSet}
use Rattle.radii.specs.Radii.{RadiusCovers, HeightCovers}
use Rattle.fields.specs.Fields.{Field, CodeOf, QuantityOf}
use Rattle.fields.specs.Fields as field

-- the whole nanodegree of least absolute value in the set (south, N = 0: -1)
pub record LatitudeColumn (south : Bool) (N : ℕ) (x : ℤ) : Type 0 where
  pub nearest : NearestOf (LatitudeSet (record { 0 = south; 1 = N })) x
  pub south_zero : south ≡ true → N ≡ 0 → x ≡ negsuc 0

-- the least whole nanodegree in the set (so never +180)
pub record LongitudeColumn (N x : ℤ) : Type 0 where
  pub lowest : LowestOf (LongitudeSet N) x
  pub never : x ≡ pos 180000000000 → ⊥

-- the whole part: K covers it, and does not cover a millimetre more, so it is below the exact radius by less than 1 mm
pub record WholePart (covers : ℕ → ℕ → Type 0) (K R : ℕ) : Type 0 where
  pub covered : covers K R
  pub below : covers K (R + 1) → ⊥

abbrev pub Column : (f : Field) → CodeOf f → QuantityOf f → Type 0
Column field.latitude c x = LatitudeColumn c.0 c.1 x.0
Column field.longitude c x = LongitudeColumn c.0 x.0
Column field.uncertainty c x = WholePart RadiusCovers c.0 x.0
Column field.altitude_uncertainty c x = WholePart HeightCovers c.0 x.0
Column field.altitude c x = x.0 ≡ signed c.0 (1000 * c.1)
Column field.inner_radius c x = x.0 ≡ 5000 * c.0
Column field.offset c x = x.0 ≡ 2000 * c.0
Column field.included c x = x.0 ≡ 2000 * (c.0 + 1)
Column field.orientation c x = x.0 ≡ 1000 * c.0
Column field.bearing c x = x.0 ≡ 1000 * c.0
Column field.horizontal_speed c x = x.0 ≡ 1000 * c.0
Column field.vertical_speed c x = x.0 ≡ signed c.0 (1000 * c.1)
Column field.uncertainty_speed c (Some s) = (c.0 ≤ 254) × (s.0 ≡ 1000 * c.0)
Column field.uncertainty_speed c None = c.0 ≡ 255
Column field.confidence c (Some p) = (1 ≤ c.0) × (c.0 ≤ 100) × (p.0 ≡ c.0)
Column field.confidence c None = c.0 ≡ 0
