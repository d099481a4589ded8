-- A record with its points.
use Rattle.layout.specs.declared.shape.Shape.{Shape}
use Rattle.outline_codes.specs.declared.points.Points.{Points}

-- a record with these points
abbrev pub with_points : Shape → Points → Shape
with_points x p = record {
  kind = x.kind;
  latitude = x.latitude;
  longitude = x.longitude;
  altitude = x.altitude;
  uncertainty = x.uncertainty;
  semi_major = x.semi_major;
  semi_minor = x.semi_minor;
  orientation = x.orientation;
  altitude_uncertainty = x.altitude_uncertainty;
  confidence = x.confidence;
  inner_radius = x.inner_radius;
  offset = x.offset;
  included = x.included;
  count = x.count;
  latitudes = p.latitudes;
  longitudes = p.longitudes;
}
