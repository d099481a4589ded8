-- What a request may ask: document 01, "Refusal numbers", 7 and 8.
use Rattle.std.specs.Prelude.{◌≤◌, Option, Some, None}
use Rattle.ground.specs.declared.quantity.Millimetres.{Millimetres}
use Rattle.fields.specs.Fields.{OutOfRange, TooUncertain}
use Rattle.fields.specs.Fields as field
use Rattle.requests.specs.declared.Request.{Request}
use Rattle.requests.specs.declared.Horizontal.{Horizontal}
use Rattle.requests.specs.declared.Horizontal.TheVariants as horizontal

-- 7: a quantity outside its range, also a semi-minor above the semi-major
abbrev pub HorizontalInRange : Horizontal → Type 0
HorizontalInRange (horizontal.Circle R) = Unit {0}
HorizontalInRange (horizontal.Ellipse R S a) = (S.0 ≤ R.0) × (OutOfRange field.orientation a → ⊥)
HorizontalInRange horizontal.NotAsked = Unit {0}

pub record RequestInRange (q : Request) : Type 0 where
  pub latitudes : OutOfRange field.latitude q.latitude → ⊥
  pub longitudes : OutOfRange field.longitude q.longitude → ⊥
  pub horizontals : HorizontalInRange q.horizontal
  pub confidences : OutOfRange field.confidence q.confidence → ⊥

-- 8: an uncertainty above what the largest code covers
abbrev pub HorizontalCovered : Horizontal → Type 0
HorizontalCovered (horizontal.Circle R) = TooUncertain field.uncertainty R → ⊥
HorizontalCovered (horizontal.Ellipse R S a) = (TooUncertain field.uncertainty R → ⊥) × (TooUncertain field.uncertainty S → ⊥)
HorizontalCovered horizontal.NotAsked = Unit {0}

abbrev pub AltitudeUncertaintyCovered : Option Millimetres → Type 0
AltitudeUncertaintyCovered (Some R) = TooUncertain field.altitude_uncertainty R → ⊥
AltitudeUncertaintyCovered None = Unit {0}

pub record RequestCovered (q : Request) : Type 0 where
  pub horizontals : HorizontalCovered q.horizontal
  pub heights : AltitudeUncertaintyCovered q.altitude_uncertainty
