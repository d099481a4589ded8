-- Document 01's table: what each field's codes and quantities are, and what coding and reporting promise.
use Rattle.std.specs.Prelude.{◌<◌, Result, Option}
use Rattle.ground.specs.Answers.{Said, done, refused, Answer, Always, said_of}
use Rattle.ground.specs.declared.quantity.Nanodegrees.{Nanodegrees}
use Rattle.ground.specs.declared.quantity.Millidegrees.{Millidegrees}
use Rattle.ground.specs.declared.quantity.Millimetres.{Millimetres}
use Rattle.ground.specs.declared.quantity.SignedMillimetres.{SignedMillimetres}
use Rattle.ground.specs.declared.quantity.MetresPerHour.{MetresPerHour}
use Rattle.ground.specs.declared.quantity.SignedMetresPerHour.{SignedMetresPerHour}
use Rattle.ground.specs.declared.code.LatitudeCode.{LatitudeCode}
use Rattle.ground.specs.declared.code.LongitudeCode.{LongitudeCode}
use Rattle.ground.specs.declared.code.UncertaintyCode.{UncertaintyCode}
use Rattle.ground.specs.declared.code.AltitudeUncertaintyCode.{AltitudeUncertaintyCode}
use Rattle.ground.specs.declared.code.AltitudeCode.{AltitudeCode}
use Rattle.ground.specs.declared.code.InnerRadiusCode.{InnerRadiusCode}
use Rattle.ground.specs.declared.code.OffsetCode.{OffsetCode}
use Rattle.ground.specs.declared.code.IncludedCode.{IncludedCode}
use Rattle.ground.specs.declared.code.OrientationCode.{OrientationCode}
use Rattle.ground.specs.declared.code.BearingCode.{BearingCode}
use Rattle.ground.specs.declared.code.HorizontalSpeedCode.{HorizontalSpeedCode}
use Rattle.ground.specs.declared.code.VerticalSpeedCode.{VerticalSpeedCode}
use Rattle.ground.specs.declared.code.UncertaintySpeedCode.{UncertaintySpeedCode}
use Rattle.ground.specs.declared.code.ConfidenceCode.{ConfidenceCode}
use Rattle.ground.specs.declared.refusals.Refusal.{Refusal}
use Rattle.ground.specs.declared.quantity.PerCent.{PerCent}
use Rattle.coordinates.specs.Latitude.{LatitudeCoding, LatitudeReporting}
use Rattle.coordinates.specs.Longitude.{LongitudeCoding, LongitudeReporting}
use Rattle.radii.specs.Radii.{UncertaintyCoding, UncertaintyReporting, AltitudeUncertaintyCoding, AltitudeUncertaintyReporting}
use Rattle.angles.specs.Angles.{OffsetCoding, OffsetReporting, IncludedCoding, IncludedReporting, OrientationCoding, OrientationReporting, BearingCoding, BearingReporting}
use Rattle.lengths.specs.Lengths.{AltitudeSet, AltitudeReporting, InnerRadiusSet, InnerRadiusReporting}
use Rattle.speeds.specs.Speeds.{HorizontalSpeedSet, HorizontalSpeedReporting, VerticalSpeedSet, VerticalSpeedReporting, UncertaintySpeedCoding, UncertaintySpeedReporting}
use Rattle.confidences.specs.Confidences.{ConfidenceCoding, ConfidenceReporting}

pub data Field : Type 0 where
  latitude : Field
  longitude : Field
  uncertainty : Field
  altitude_uncertainty : Field
  altitude : Field
  inner_radius : Field
  offset : Field
  included : Field
  orientation : Field
  bearing : Field
  horizontal_speed : Field
  vertical_speed : Field
  uncertainty_speed : Field
  confidence : Field

-- what a code is
abbrev pub CodeOf : Field → Type 0
CodeOf latitude = LatitudeCode
CodeOf longitude = LongitudeCode
CodeOf uncertainty = UncertaintyCode
CodeOf altitude_uncertainty = AltitudeUncertaintyCode
CodeOf altitude = AltitudeCode
CodeOf inner_radius = InnerRadiusCode
CodeOf offset = OffsetCode
CodeOf included = IncludedCode
CodeOf orientation = OrientationCode
CodeOf bearing = BearingCode
CodeOf horizontal_speed = HorizontalSpeedCode
CodeOf vertical_speed = VerticalSpeedCode
CodeOf uncertainty_speed = UncertaintySpeedCode
CodeOf confidence = ConfidenceCode

-- what a quantity is, in the width in which it arrives
abbrev pub QuantityOf : Field → Type 0
QuantityOf latitude = Nanodegrees
QuantityOf longitude = Nanodegrees
QuantityOf uncertainty = Millimetres
QuantityOf altitude_uncertainty = Millimetres
QuantityOf altitude = SignedMillimetres
QuantityOf inner_radius = Millimetres
QuantityOf offset = Millidegrees
QuantityOf included = Millidegrees
QuantityOf orientation = Millidegrees
QuantityOf bearing = Millidegrees
QuantityOf horizontal_speed = MetresPerHour
QuantityOf vertical_speed = SignedMetresPerHour
QuantityOf uncertainty_speed = Option MetresPerHour
QuantityOf confidence = Option PerCent

-- what coding a quantity says
abbrev pub Coding : (f : Field) → QuantityOf f → Said (CodeOf f) → Type 0
Coding latitude x = LatitudeCoding x
Coding longitude x = LongitudeCoding x
Coding uncertainty x = UncertaintyCoding x
Coding altitude_uncertainty x = AltitudeUncertaintyCoding x
Coding altitude x = Always (λ c. AltitudeSet c x.0)
Coding inner_radius x = Always (λ c. InnerRadiusSet c x.0)
Coding offset x = OffsetCoding x
Coding included x = IncludedCoding x
Coding orientation x = OrientationCoding x
Coding bearing x = BearingCoding x
Coding horizontal_speed x = Always (λ c. HorizontalSpeedSet c x.0)
Coding vertical_speed x = Always (λ c. VerticalSpeedSet c x.0)
Coding uncertainty_speed x = UncertaintySpeedCoding x
Coding confidence x = ConfidenceCoding x

-- x is outside its field's range; x is above what its field's largest code covers
abbrev pub OutOfRange : (f : Field) → QuantityOf f → Type 0
OutOfRange f x = Coding f x (refused 7)

abbrev pub TooUncertain : (f : Field) → QuantityOf f → Type 0
TooUncertain f x = Coding f x (refused 8)

-- what reporting a code says; 7 for a number that is no code of the field, also where the code's own type can't hold it
abbrev pub Reporting : (f : Field) → CodeOf f → Said (QuantityOf f) → Type 0
Reporting latitude c = LatitudeReporting c
Reporting longitude c = LongitudeReporting c
Reporting uncertainty c = UncertaintyReporting c
Reporting altitude_uncertainty c = AltitudeUncertaintyReporting c
Reporting altitude c = AltitudeReporting c
Reporting inner_radius c = Answer (InnerRadiusReporting c) 7 (65535 < c.0)
Reporting offset c = OffsetReporting c
Reporting included c = IncludedReporting c
Reporting orientation c = OrientationReporting c
Reporting bearing c = BearingReporting c
Reporting horizontal_speed c = Answer (HorizontalSpeedReporting c) 7 (65535 < c.0)
Reporting vertical_speed c = Answer (VerticalSpeedReporting c) 7 (255 < c.1)
Reporting uncertainty_speed c = Answer (UncertaintySpeedReporting c) 7 (255 < c.0)
Reporting confidence c = ConfidenceReporting c

-- ---- what the functions answer: a Result where they may refuse, else the code or the quantity

-- the answer of the coder
abbrev pub CodedOf : Field → Type 0
CodedOf latitude = Result LatitudeCode Refusal
CodedOf longitude = Result LongitudeCode Refusal
CodedOf uncertainty = Result UncertaintyCode Refusal
CodedOf altitude_uncertainty = Result AltitudeUncertaintyCode Refusal
CodedOf altitude = AltitudeCode
CodedOf inner_radius = InnerRadiusCode
CodedOf offset = Result OffsetCode Refusal
CodedOf included = Result IncludedCode Refusal
CodedOf orientation = Result OrientationCode Refusal
CodedOf bearing = Result BearingCode Refusal
CodedOf horizontal_speed = HorizontalSpeedCode
CodedOf vertical_speed = VerticalSpeedCode
CodedOf uncertainty_speed = Result UncertaintySpeedCode Refusal
CodedOf confidence = Result ConfidenceCode Refusal

-- what it says
abbrev pub said_code : (f : Field) → CodedOf f → Said (CodeOf f)
said_code latitude r = said_of r
said_code longitude r = said_of r
said_code uncertainty r = said_of r
said_code altitude_uncertainty r = said_of r
said_code altitude r = done r
said_code inner_radius r = done r
said_code offset r = said_of r
said_code included r = said_of r
said_code orientation r = said_of r
said_code bearing r = said_of r
said_code horizontal_speed r = done r
said_code vertical_speed r = done r
said_code uncertainty_speed r = said_of r
said_code confidence r = said_of r

-- the answer of the reporter
abbrev pub ReportedOf : Field → Type 0
ReportedOf latitude = Result Nanodegrees Refusal
ReportedOf longitude = Result Nanodegrees Refusal
ReportedOf uncertainty = Result Millimetres Refusal
ReportedOf altitude_uncertainty = Result Millimetres Refusal
ReportedOf altitude = Result SignedMillimetres Refusal
ReportedOf inner_radius = Millimetres
ReportedOf offset = Result Millidegrees Refusal
ReportedOf included = Result Millidegrees Refusal
ReportedOf orientation = Result Millidegrees Refusal
ReportedOf bearing = Result Millidegrees Refusal
ReportedOf horizontal_speed = MetresPerHour
ReportedOf vertical_speed = SignedMetresPerHour
ReportedOf uncertainty_speed = Option MetresPerHour
ReportedOf confidence = Result (Option PerCent) Refusal

-- what it says
abbrev pub said_quantity : (f : Field) → ReportedOf f → Said (QuantityOf f)
said_quantity latitude r = said_of r
said_quantity longitude r = said_of r
said_quantity uncertainty r = said_of r
said_quantity altitude_uncertainty r = said_of r
said_quantity altitude r = said_of r
said_quantity inner_radius r = done r
said_quantity offset r = said_of r
said_quantity included r = said_of r
said_quantity orientation r = said_of r
said_quantity bearing r = said_of r
said_quantity horizontal_speed r = done r
said_quantity vertical_speed r = done r
said_quantity uncertainty_speed r = done r
said_quantity confidence r = said_of r
