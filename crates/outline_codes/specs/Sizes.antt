-- The codes of a shape's uncertainties.
use Rattle.std.specs.Prelude.{Result}
use Rattle.ground.specs.Answers.{done, said_of, Answer}
use Rattle.ground.specs.declared.refusals.Refusal.{Refusal}
use Rattle.fields.specs.Fields.{Coding}
use Rattle.fields.specs.Fields as field
use Rattle.quantities.specs.declared.shape.ShapeQuantities.{ShapeQuantities}
use Rattle.outline_codes.specs.declared.sizes.Sizes.{Sizes}

-- none is above what its largest code covers
pub record SizesCovered (q : ShapeQuantities) : Type 0 where
  pub uncertainties : field.TooUncertain field.uncertainty q.uncertainty → ⊥
  pub semi_majors : field.TooUncertain field.uncertainty q.semi_major → ⊥
  pub semi_minors : field.TooUncertain field.uncertainty q.semi_minor → ⊥
  pub altitude_uncertainties : field.TooUncertain field.altitude_uncertainty q.altitude_uncertainty → ⊥

pub record SizeCodes (q : ShapeQuantities) (r : Sizes) : Type 0 where
  pub uncertainties : Coding field.uncertainty q.uncertainty (done r.uncertainty)
  pub semi_majors : Coding field.uncertainty q.semi_major (done r.semi_major)
  pub semi_minors : Coding field.uncertainty q.semi_minor (done r.semi_minor)
  pub altitude_uncertainties : Coding field.altitude_uncertainty q.altitude_uncertainty (done r.altitude_uncertainty)

abbrev pub CodesSizes : ShapeQuantities → Result Sizes Refusal → Type 0
CodesSizes q r = Answer (SizeCodes q) 8 (SizesCovered q → ⊥) (said_of r)
