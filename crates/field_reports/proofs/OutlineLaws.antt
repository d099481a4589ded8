-- The codes of a record that the writer takes are held by their fields, and what is reported of them are its quantities.
use Prim.Native.Nat.{zero, suc}
use mathlib.Core.Path.{◌≡◌, refl, sym, ◌∙◌}
use mathlib.Core.Bool.{true}
use mathlib.Core.List.{List}
use native.Mathlib.Omega.{arith}
use lib.ListN.{replicate}
use Rattle.ground.specs.Answers.{done}
use Rattle.ground.specs.declared.quantity.Nanodegrees.{Nanodegrees}
use Rattle.fields.specs.Fields.{Reporting}
use Rattle.layout.specs.declared.shape.Shape.{Shape}
use Rattle.layout.specs.Layout.{MessageField, shape_rows}
use Rattle.layout.specs.Layout as layout
use Rattle.layout.specs.Rows.{width_of}
use Rattle.layout.specs.Demands.{Used}
use Rattle.layout.specs.Shapes.{rows_of, zero_latitude, zero_longitude}
use Rattle.layout.proofs.KindLaws.{points_of, fixed-width}
use Rattle.layout.proofs.WidthLaws.{shape_widest, shape-width}
use Rattle.quantities.specs.declared.shape.ShapeQuantities.{ShapeQuantities}
use Rattle.quantities.specs.Places.{Place, field_of, row_of, Unused, zero_quantity}
use Rattle.quantities.specs.Places as place
use Rattle.quantities.specs.Shapes.{code_at, quantity_at, TakesShape, QuantitiesOf}
use Rattle.quantities.proofs.HeldLaws.{taken, shape-held}
use Rattle.quantities.proofs.ZeroLaws.{has_zero, reports-zero}
use Rattle.quantities.proofs.UnusedLaws.{used-point, unused-point, counted-points, unused-code}
use Rattle.field_reports.specs.Outlines.{OutlineHeld, OutlineReported}
use Rattle.field_reports.specs.Points.{LatitudesReported, LongitudesReported}

-- an outline with these points
abbrev pub with_points : ShapeQuantities → List Nanodegrees → List Nanodegrees → ShapeQuantities
with_points q latitudes' longitudes' = record {
  kind = q.kind;
  latitude = q.latitude;
  longitude = q.longitude;
  altitude = q.altitude;
  uncertainty = q.uncertainty;
  semi_major = q.semi_major;
  semi_minor = q.semi_minor;
  orientation = q.orientation;
  altitude_uncertainty = q.altitude_uncertainty;
  confidence = q.confidence;
  inner_radius = q.inner_radius;
  offset = q.offset;
  included = q.included;
  count = q.count;
  latitudes = latitudes';
  longitudes = longitudes';
}

-- a record without its points
abbrev pub pointless : Shape → Shape
pointless x = record {
  kind = x.kind;
  latitude = x.latitude;
  longitude = x.longitude;
  altitude = x.altitude;
  uncertainty = x.uncertainty;
  semi_major = x.semi_major;
  semi_minor = x.semi_minor;
  orientation = x.orientation;
  altitude_uncertainty = x.altitude_uncertainty;
  confidence = x.confidence;
  inner_radius = x.inner_radius;
  offset = x.offset;
  included = x.included;
  count = x.count;
  latitudes = replicate 15 zero_latitude;
  longitudes = replicate 15 zero_longitude;
}

-- its outline is the record's
pub outline-of : (x : Shape) (q : ShapeQuantities) → OutlineReported (pointless x) q → OutlineReported x q
outline-of x q h = record {
  kinds = h.kinds;
  counts = h.counts;
  latitudes = h.latitudes;
  longitudes = h.longitudes;
  altitudes = h.altitudes;
  uncertainties = h.uncertainties;
  semi_majors = h.semi_majors;
  semi_minors = h.semi_minors;
  orientations = h.orientations;
  altitude_uncertainties = h.altitude_uncertainties;
  confidences = h.confidences;
  inner_radii = h.inner_radii;
  offsets = h.offsets;
  includeds = h.includeds;
  no_latitudes = h.no_latitudes;
  no_longitudes = h.no_longitudes;
}

module _ (x : Shape) (t : TakesShape x) where
  pub outline-held : OutlineHeld x
  outline-held = record {
    latitudes = shape-held x t (place.latitude 0);
    longitudes = shape-held x t (place.longitude 0);
    altitudes = shape-held x t place.altitude;
    uncertainties = shape-held x t place.uncertainty;
    semi_majors = shape-held x t place.semi_major;
    semi_minors = shape-held x t place.semi_minor;
    orientations = shape-held x t place.orientation;
    altitude_uncertainties = shape-held x t place.altitude_uncertainty;
    confidences = shape-held x t place.confidence;
    offsets = shape-held x t place.offset;
    includeds = shape-held x t place.included;
  }

  pub pointless-held : OutlineHeld (pointless x)
  pointless-held = record {
    latitudes = outline-held.latitudes;
    longitudes = outline-held.longitudes;
    altitudes = outline-held.altitudes;
    uncertainties = outline-held.uncertainties;
    semi_majors = outline-held.semi_majors;
    semi_minors = outline-held.semi_minors;
    orientations = outline-held.orientations;
    altitude_uncertainties = outline-held.altitude_uncertainties;
    confidences = outline-held.confidences;
    offsets = outline-held.offsets;
    includeds = outline-held.includeds;
  }

  module _ (q₀ : ShapeQuantities) (outline : OutlineReported x q₀) {latitudes' longitudes' : List Nanodegrees}
      (lats : LatitudesReported x.latitudes x.count latitudes') (lons : LongitudesReported x.longitudes x.count longitudes') where
    abbrev q : ShapeQuantities
    q = with_points q₀ latitudes' longitudes'

    no_row : (f : MessageField) → shape_widest f ≡ 0 → Used (rows_of x) f → ⊥
    no_row f e u = let l = shape-width x.kind x.count f in absurd (omega arith)

    counted : points_of x.kind x.count ≡ x.count
    counted = counted-points x (taken x t).fields

    included-width : width_of (rows_of x) layout.included ≡ width_of (shape_rows x.kind 0) layout.included
    included-width = fixed-width x.kind x.count layout.included (omega arith) (omega arith)

    used : (p : Place) → Used (rows_of x) (row_of p) → Reporting (field_of p) (code_at x p) (done (quantity_at q p))
    used (place.latitude zero) u = outline.latitudes
    used (place.latitude (suc i)) u = let l = used-point x.kind x.count i (layout.latitude (suc i)) (omega arith) u in lats.each i (omega (arith, counted))
    used (place.longitude zero) u = outline.longitudes
    used (place.longitude (suc i)) u = let l = used-point x.kind x.count i (layout.longitude (suc i)) (omega arith) u in lons.each i (omega (arith, counted))
    used place.altitude u = outline.altitudes
    used place.uncertainty u = outline.uncertainties
    used place.semi_major u = outline.semi_majors
    used place.semi_minor u = outline.semi_minors
    used place.orientation u = outline.orientations
    used place.altitude_uncertainty u = outline.altitude_uncertainties
    used place.confidence u = outline.confidences
    used place.inner_radius u = outline.inner_radii
    used place.offset u = outline.offsets
    used place.included u = outline.includeds.used (rw included-width at u)
    used place.bearing u = absurd (no_row layout.bearing refl u)
    used place.horizontal_speed u = absurd (no_row layout.horizontal_speed refl u)
    used place.vertical_speed u = absurd (no_row layout.vertical_speed refl u)
    used place.speed_uncertainty u = absurd (no_row layout.speed_uncertainty refl u)
    used place.vertical_uncertainty u = absurd (no_row layout.vertical_uncertainty refl u)

    zero-at : (p : Place) → has_zero (field_of p) ≡ true → Unused (rows_of x) (row_of p) → Reporting (field_of p) (code_at x p) (done (quantity_at q p)) → quantity_at q p ≡ zero_quantity (field_of p)
    zero-at p h e r = reports-zero (field_of p) (code_at x p) (quantity_at q p) h (unused-code x (taken x t).fields p e) r

    unused : (p : Place) → Unused (rows_of x) (row_of p) → quantity_at q p ≡ zero_quantity (field_of p)
    unused (place.latitude zero) e = zero-at (place.latitude 0) refl e outline.latitudes
    unused (place.latitude (suc i)) e = let l = unused-point x.kind x.count 1 i (omega arith) e in lats.rest i (omega (arith, counted))
    unused (place.longitude zero) e = zero-at (place.longitude 0) refl e outline.longitudes
    unused (place.longitude (suc i)) e = let l = unused-point x.kind x.count 2 i (omega arith) e in lons.rest i (omega (arith, counted))
    unused place.altitude e = zero-at place.altitude refl e outline.altitudes
    unused place.uncertainty e = zero-at place.uncertainty refl e outline.uncertainties
    unused place.semi_major e = zero-at place.semi_major refl e outline.semi_majors
    unused place.semi_minor e = zero-at place.semi_minor refl e outline.semi_minors
    unused place.orientation e = zero-at place.orientation refl e outline.orientations
    unused place.altitude_uncertainty e = zero-at place.altitude_uncertainty refl e outline.altitude_uncertainties
    unused place.confidence e = zero-at place.confidence refl e outline.confidences
    unused place.inner_radius e = zero-at place.inner_radius refl e outline.inner_radii
    unused place.offset e = zero-at place.offset refl e outline.offsets
    unused place.included e = outline.includeds.unused (sym included-width ∙ e)
    unused place.bearing e = refl
    unused place.horizontal_speed e = refl
    unused place.vertical_speed e = refl
    unused place.speed_uncertainty e = refl
    unused place.vertical_uncertainty e = refl

    pub all-reported : QuantitiesOf x (with_points q₀ latitudes' longitudes')
    all-reported = record { kinds = outline.kinds; counts = outline.counts; all_latitudes = lats.fifteen; all_longitudes = lons.fifteen; each = record { used = used; unused = unused } }
