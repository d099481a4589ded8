-- What is reported of a record, its points aside.
use Rattle.std.specs.Prelude.{◌≡◌, replicate}
use Rattle.ground.specs.Answers.{done}
use Rattle.ground.specs.declared.code.IncludedCode.{IncludedCode}
use Rattle.ground.specs.declared.quantity.Millidegrees.{Millidegrees}
use Rattle.fields.specs.Fields.{Reporting}
use Rattle.fields.specs.Fields as field
use Rattle.fields.specs.Quantities.{Held}
use Rattle.layout.specs.declared.shape.Kind.{Kind}
use Rattle.layout.specs.declared.shape.Shape.{Shape}
use Rattle.layout.specs.Layout.{shape_rows}
use Rattle.layout.specs.Layout as layout
use Rattle.layout.specs.Demands.{Used}
use Rattle.quantities.specs.declared.shape.ShapeQuantities.{ShapeQuantities}
use Rattle.quantities.specs.Places.{Unused, zero_quantity}
use Rattle.quantities.specs.Shapes.{zero_degrees}

-- each code is one that its field holds
pub record OutlineHeld (x : Shape) : Type 0 where
  pub latitudes : Held field.latitude x.latitude
  pub longitudes : Held field.longitude x.longitude
  pub altitudes : Held field.altitude x.altitude
  pub uncertainties : Held field.uncertainty x.uncertainty
  pub semi_majors : Held field.uncertainty x.semi_major
  pub semi_minors : Held field.uncertainty x.semi_minor
  pub orientations : Held field.orientation x.orientation
  pub altitude_uncertainties : Held field.altitude_uncertainty x.altitude_uncertainty
  pub confidences : Held field.confidence x.confidence
  pub offsets : Held field.offset x.offset
  pub includeds : Held field.included x.included

-- what is reported in a kind that uses it, and zero in one that doesn't
pub record IncludedReported (k : Kind) (c : IncludedCode) (a : Millidegrees) : Type 0 where
  pub used : Used (shape_rows k 0) layout.included → Reporting field.included c (done a)
  pub unused : Unused (shape_rows k 0) layout.included → a ≡ zero_quantity field.included

-- each quantity is what its field reports, and there are no points
pub record OutlineReported (x : Shape) (q : ShapeQuantities) : Type 0 where
  pub kinds : q.kind ≡ x.kind
  pub counts : q.count ≡ x.count
  pub latitudes : Reporting field.latitude x.latitude (done q.latitude)
  pub longitudes : Reporting field.longitude x.longitude (done q.longitude)
  pub altitudes : Reporting field.altitude x.altitude (done q.altitude)
  pub uncertainties : Reporting field.uncertainty x.uncertainty (done q.uncertainty)
  pub semi_majors : Reporting field.uncertainty x.semi_major (done q.semi_major)
  pub semi_minors : Reporting field.uncertainty x.semi_minor (done q.semi_minor)
  pub orientations : Reporting field.orientation x.orientation (done q.orientation)
  pub altitude_uncertainties : Reporting field.altitude_uncertainty x.altitude_uncertainty (done q.altitude_uncertainty)
  pub confidences : Reporting field.confidence x.confidence (done q.confidence)
  pub inner_radii : Reporting field.inner_radius x.inner_radius (done q.inner_radius)
  pub offsets : Reporting field.offset x.offset (done q.offset)
  pub includeds : IncludedReported x.kind x.included q.included
  pub no_latitudes : q.latitudes ≡ replicate 15 zero_degrees
  pub no_longitudes : q.longitudes ≡ replicate 15 zero_degrees
