-- What a kind doesn't use is zero.
use Rattle.std.specs.Prelude.{◌≡◌, Bool, false}
use Rattle.fields.specs.Fields as field
use Rattle.quantities.specs.Places.{zero_quantity}
use Rattle.quantities.specs.declared.shape.ShapeQuantities.{ShapeQuantities}
use Rattle.outline_codes.specs.declared.unused.Uses.{Uses}

-- not used, it is none
abbrev pub Idle : {A : Type 0} → Bool → A → A → Type 0
Idle used x none = used ≡ false → x ≡ none

-- the quantities that are natural numbers
pub record NumbersZero (u : Uses) (q : ShapeQuantities) : Type 0 where
  pub uncertainties : Idle u.uncertainty q.uncertainty.0 0
  pub semi_majors : Idle u.axes q.semi_major.0 0
  pub semi_minors : Idle u.axes q.semi_minor.0 0
  pub orientations : Idle u.axes q.orientation.0 0
  pub altitude_uncertainties : Idle u.altitude_uncertainty q.altitude_uncertainty.0 0
  pub inner_radii : Idle u.arc q.inner_radius.0 0
  pub offsets : Idle u.arc q.offset.0 0
  pub includeds : Idle u.arc q.included.0 0

-- all, polygon points aside
pub record RestZero (u : Uses) (q : ShapeQuantities) : Type 0 where
  pub latitudes : Idle u.position q.latitude (zero_quantity field.latitude)
  pub longitudes : Idle u.position q.longitude (zero_quantity field.longitude)
  pub altitudes : Idle u.altitude q.altitude (zero_quantity field.altitude)
  pub confidences : Idle u.confidence q.confidence (zero_quantity field.confidence)
  pub counts : Idle u.count q.count 0
  pub numbers : NumbersZero u q
