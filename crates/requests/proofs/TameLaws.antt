-- The codes of a request are tame.
use Rattle.std.specs.Prelude.{Option, Some, None}
use native.Mathlib.Omega.{arith}
use Rattle.ground.specs.declared.code.AltitudeCode.{AltitudeCode}
use Rattle.ground.specs.declared.code.AltitudeUncertaintyCode.{AltitudeUncertaintyCode}
use Rattle.ground.specs.declared.quantity.Millimetres.{Millimetres}
use Rattle.ground.specs.declared.quantity.SignedMillimetres.{SignedMillimetres}
use Rattle.fields.specs.Fields as field
use Rattle.fields.specs.Quantities.{Held}
use Rattle.requests.specs.declared.Request.{Request}
use Rattle.requests.specs.declared.Horizontal.{Horizontal}
use Rattle.requests.specs.declared.Horizontal.TheVariants as horizontal
use Rattle.requests.specs.declared.codes.AreaWanted.{AreaWanted}
use Rattle.requests.specs.declared.codes.Wanted.{Wanted}
use Rattle.requests.specs.Codes.{AltitudeCodes, AreaCodes, AltitudeUncertaintyCodes, CodesOf, altitude_or_0, area_or_0, height_or_0, Tame}
use Rattle.requests.proofs.CodedLaws.{coded-held}

altitude-held : (a : Option SignedMillimetres) (w : Option AltitudeCode) → AltitudeCodes a w → Held field.altitude (altitude_or_0 w)
altitude-held (Some a) (Some c) p = coded-held field.altitude a c p
altitude-held (Some a) None p = absurd p
altitude-held None (Some c) p = absurd p
altitude-held None None p = omega arith

height-held : (u : Option Millimetres) (w : Option AltitudeUncertaintyCode) → AltitudeUncertaintyCodes u w → Held field.altitude_uncertainty (height_or_0 w)
height-held (Some R) (Some K) p = coded-held field.altitude_uncertainty R K p
height-held (Some R) None p = absurd p
height-held None (Some K) p = absurd p
height-held None None p = omega arith

record TameArea (w : AreaWanted) : Type 0 where
  majors : Held field.uncertainty w.semi_major
  minors : Held field.uncertainty w.semi_minor
  orientations : Held field.orientation w.orientation

area-tame : (h : Horizontal) (w : Option AreaWanted) → AreaCodes h w → TameArea (area_or_0 w)
area-tame (horizontal.Circle R) None p = absurd p
area-tame (horizontal.Circle R) (Some w) p =
    record {
      majors = coded-held field.uncertainty R w.semi_major p.major;
      minors = coded-held field.uncertainty R w.semi_minor p.minor;
      orientations = omega (arith, p.turn);
    }
area-tame (horizontal.Ellipse R S a) None p = absurd p
area-tame (horizontal.Ellipse R S a) (Some w) p =
    record {
      majors = coded-held field.uncertainty R w.semi_major p.major;
      minors = coded-held field.uncertainty S w.semi_minor p.minor;
      orientations = coded-held field.orientation a w.orientation p.turn;
    }
area-tame horizontal.NotAsked (Some w) p = absurd p
area-tame horizontal.NotAsked None p = record { majors = omega arith; minors = omega arith; orientations = omega arith }

pub tame : (q : Request) (w : Wanted) → CodesOf q w → Tame w
tame q w p =
    let a = area-tame q.horizontal w.area p.areas in
    record {
      latitudes = coded-held field.latitude q.latitude w.latitude p.latitudes;
      longitudes = coded-held field.longitude q.longitude w.longitude p.longitudes;
      altitudes = altitude-held q.altitude w.altitude p.altitudes;
      majors = a.majors;
      minors = a.minors;
      orientations = a.orientations;
      heights = height-held q.altitude_uncertainty w.altitude_uncertainty p.heights;
      confidences = coded-held field.confidence q.confidence w.confidence p.confidences;
    }
