-- The codes of the quantities that have a range, polygon points aside.
use Rattle.std.specs.Prelude.{◌≡◌, Bool, true, false, Result, Ok}
use Rattle.ground.specs.Answers.{done, said_of, Answer}
use Rattle.ground.specs.declared.code.IncludedCode.{IncludedCode}
use Rattle.ground.specs.declared.quantity.Millidegrees.{Millidegrees}
use Rattle.ground.specs.declared.refusals.Refusal.{Refusal}
use Rattle.angles.specs.Angles.{CodedIncluded}
use Rattle.fields.specs.Fields.{Coding}
use Rattle.fields.specs.Fields as field
use Rattle.quantities.specs.Places.{zero_code}
use Rattle.quantities.specs.declared.shape.ShapeQuantities.{ShapeQuantities}
use Rattle.outline_codes.specs.declared.ranges.Ranged.{Ranged}

-- none is out of its range; an included angle is looked at in an arc alone
pub record RangesKept (arc : Bool) (q : ShapeQuantities) : Type 0 where
  pub latitudes : field.OutOfRange field.latitude q.latitude → ⊥
  pub longitudes : field.OutOfRange field.longitude q.longitude → ⊥
  pub orientations : field.OutOfRange field.orientation q.orientation → ⊥
  pub offsets : field.OutOfRange field.offset q.offset → ⊥
  pub includeds : arc ≡ true → field.OutOfRange field.included q.included → ⊥
  pub confidences : field.OutOfRange field.confidence q.confidence → ⊥

abbrev pub IncludedCodes : Bool → Millidegrees → IncludedCode → Type 0
IncludedCodes true a c = Coding field.included a (done c)
IncludedCodes false a c = c ≡ zero_code field.included

pub record RangedCodes (arc : Bool) (q : ShapeQuantities) (r : Ranged) : Type 0 where
  pub latitudes : Coding field.latitude q.latitude (done r.latitude)
  pub longitudes : Coding field.longitude q.longitude (done r.longitude)
  pub orientations : Coding field.orientation q.orientation (done r.orientation)
  pub offsets : Coding field.offset q.offset (done r.offset)
  pub includeds : IncludedCodes arc q.included r.included
  pub confidences : Coding field.confidence q.confidence (done r.confidence)

abbrev pub CodesRanged : Bool → ShapeQuantities → Result Ranged Refusal → Type 0
CodesRanged arc q r = Answer (RangedCodes arc q) 7 (RangesKept arc q → ⊥) (said_of r)

abbrev pub CodesIncluded : Bool → Millidegrees → Result IncludedCode Refusal → Type 0
CodesIncluded true a r = CodedIncluded a r
CodesIncluded false a r = r ≡ Ok (zero_code field.included)
