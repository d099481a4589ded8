-- The record of the codes that are found, but for its points.
use Rattle.std.specs.Prelude.{◌≡◌, ℕ, replicate}
use Rattle.ground.specs.Answers.{done}
use Rattle.ground.specs.declared.code.AltitudeCode.{AltitudeCode}
use Rattle.ground.specs.declared.code.InnerRadiusCode.{InnerRadiusCode}
use Rattle.fields.specs.Fields.{Coding}
use Rattle.fields.specs.Fields as field
use Rattle.layout.specs.declared.shape.Kind.{Kind}
use Rattle.layout.specs.declared.shape.Shape.{Shape}
use Rattle.layout.specs.Shapes.{zero_latitude, zero_longitude}
use Rattle.quantities.specs.declared.shape.ShapeQuantities.{ShapeQuantities}
use Rattle.outline_codes.specs.declared.ranges.Ranged.{Ranged}
use Rattle.outline_codes.specs.declared.sizes.Sizes.{Sizes}

abbrev pub outline_joined : Kind → ℕ → AltitudeCode → InnerRadiusCode → Ranged → Sizes → Shape
outline_joined k n a b r s = record {
  kind = k;
  latitude = r.latitude;
  longitude = r.longitude;
  altitude = a;
  uncertainty = s.uncertainty;
  semi_major = s.semi_major;
  semi_minor = s.semi_minor;
  orientation = r.orientation;
  altitude_uncertainty = s.altitude_uncertainty;
  confidence = r.confidence;
  inner_radius = b;
  offset = r.offset;
  included = r.included;
  count = n;
  latitudes = replicate 15 zero_latitude;
  longitudes = replicate 15 zero_longitude;
}

pub record Outlined (q : ShapeQuantities) (r : Ranged) (s : Sizes) (x : Shape) : Type 0 where
  pub altitude : AltitudeCode
  pub inner_radius : InnerRadiusCode
  pub altitudes : Coding field.altitude q.altitude (done altitude)
  pub inner_radii : Coding field.inner_radius q.inner_radius (done inner_radius)
  pub joined : x ≡ outline_joined q.kind q.count altitude inner_radius r s
