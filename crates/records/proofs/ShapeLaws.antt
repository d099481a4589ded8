-- A shape's places: from the codes that are found to what is promised of all places, and back where a test fails.
use Rattle.std.specs.Prelude.{Ok, Err}
use Prim.Native.Nat.{ℕ, zero, suc, ◌≤◌}
use mathlib.Core.Path.{◌≡◌, refl, sym, ap, subst}
use mathlib.Core.Bool.{Bool}
use mathlib.Core.List.{List}
use native.Mathlib.Omega.{arith}
use Rattle.ground.specs.Answers.{number_of, unmet, met, done, refused}
use Rattle.ground.specs.declared.refusals.Refusal.{Refusal}
use Rattle.ground.specs.declared.quantity.Millidegrees.{Millidegrees}
use Rattle.ground.specs.declared.quantity.Millimetres.{Millimetres}
use Rattle.fields.specs.Fields.{Coding}
use Rattle.fields.specs.Fields as field
use Rattle.layout.specs.declared.shape.Shape.{Shape}
use Rattle.layout.specs.Layout.{MessageField, Row}
use Rattle.layout.specs.Layout as layout
use Rattle.layout.specs.Demands.{Used}
use Rattle.layout.proofs.KindLaws.{points_of}
use Rattle.layout.proofs.WidthLaws.{shape_widest, shape-width}
use Rattle.quantities.specs.declared.shape.ShapeQuantities.{ShapeQuantities}
use Rattle.quantities.specs.Places.{Place, field_of, row_of, PlaceQuantities, Unused, zero_code, zero_quantity}
use Rattle.quantities.specs.Places as place
use Rattle.quantities.specs.Promises.{QuantitiesInRange, QuantitiesCovered, CodeAnswer}
use Rattle.quantities.specs.Shapes.{code_at, quantity_at, quantity_rows, RecordOf, CodesShape}
use Rattle.quantities.proofs.UnusedLaws.{points-counted}
use Rattle.outline_codes.specs.declared.points.Points.{Points}
use Rattle.outline_codes.specs.declared.ranges.Ranged.{Ranged}
use Rattle.outline_codes.specs.declared.sizes.Sizes.{Sizes}
use Rattle.outline_codes.specs.declared.unused.Uses.{Uses}
use Rattle.outline_codes.specs.Kinds.{uses_of}
use Rattle.records.specs.Kinds.{Formed}
use Rattle.outline_codes.specs.Outlines.{outline_joined, Outlined}
use Rattle.outline_codes.specs.Points.{PointsKept, PointsCodes}
use Rattle.outline_codes.specs.Ranges.{RangesKept, RangedCodes, IncludedCodes}
use Rattle.records.specs.Records.{with_points}
use Rattle.outline_codes.specs.Sizes.{SizesCovered, SizeCodes}
use Rattle.outline_codes.specs.Unused.{RestZero}
use Rattle.quantities.proofs.ZeroLaws.{not-refused, zero-has-code, kept}
use Rattle.records.proofs.UseLaws.{grouped, idle, idle-back, active, active-back, count-idle, count-idle-back, latitude-used, longitude-used, latitude-unused, longitude-unused, latitude-counted, longitude-counted, latitude-past, longitude-past}

module _ (q : ShapeQuantities) where
  abbrev rows : List Row
  rows = quantity_rows q

  abbrev at : PlaceQuantities
  at = quantity_at q

  abbrev used-groups : Uses
  used-groups = uses_of q.kind

  -- a velocity's field is in no shape
  none : {A : Type 0} (f : MessageField) → shape_widest f ≡ 0 → Used rows f → A
  none f e u = absurd (omega (arith, shape-width q.kind q.count f))

  -- ---- 7

  module _ (z : RestZero used-groups q) (axes : q.semi_minor.0 ≤ q.semi_major.0) (r : Ranged) (codes : RangedCodes used-groups.arc q r) (points : PointsKept q.latitudes q.longitudes q.count) where
    counted : points_of q.kind q.count ≡ q.count
    counted = points-counted q.kind q.count (λ e. z.counts (count-idle q.kind q.count e))

    in-range-used : (p : Place) → Used rows (row_of p) → Coding (field_of p) (at p) (refused 7) → ⊥
    in-range-used (place.latitude zero) u = not-refused field.latitude q.latitude r.latitude 7 codes.latitudes
    in-range-used (place.longitude zero) u = not-refused field.longitude q.longitude r.longitude 7 codes.longitudes
    in-range-used place.altitude u = λ x. x.1
    in-range-used place.uncertainty u = λ x. absurd (omega (arith, x.0))
    in-range-used place.semi_major u = λ x. absurd (omega (arith, x.0))
    in-range-used place.semi_minor u = λ x. absurd (omega (arith, x.0))
    in-range-used place.orientation u = not-refused field.orientation q.orientation r.orientation 7 codes.orientations
    in-range-used place.altitude_uncertainty u = λ x. absurd (omega (arith, x.0))
    in-range-used place.confidence u = not-refused field.confidence q.confidence r.confidence 7 codes.confidences
    in-range-used place.inner_radius u = λ x. x.1
    in-range-used place.offset u = not-refused field.offset q.offset r.offset 7 codes.offsets
    in-range-used place.included u =
        not-refused field.included q.included r.included 7
        (subst (λ (b : Bool). IncludedCodes b q.included r.included) (active q.kind q.count layout.included (omega arith) (omega arith) (grouped q.kind).includeds u) codes.includeds)
    in-range-used (place.latitude (suc i)) u = (points i).latitudes (latitude-counted q.kind q.count counted i u)
    in-range-used (place.longitude (suc i)) u = (points i).longitudes (longitude-counted q.kind q.count counted i u)
    in-range-used place.bearing u = none layout.bearing refl u
    in-range-used place.horizontal_speed u = none layout.horizontal_speed refl u
    in-range-used place.vertical_speed u = none layout.vertical_speed refl u
    in-range-used place.speed_uncertainty u = none layout.speed_uncertainty refl u
    in-range-used place.vertical_uncertainty u = none layout.vertical_uncertainty refl u

    in-range-unused : (p : Place) → Unused rows (row_of p) → at p ≡ zero_quantity (field_of p)
    in-range-unused (place.latitude zero) e = z.latitudes (idle q.kind q.count (layout.latitude 0) (omega arith) (omega arith) refl e)
    in-range-unused (place.longitude zero) e = z.longitudes (idle q.kind q.count (layout.longitude 0) (omega arith) (omega arith) (grouped q.kind).longitudes e)
    in-range-unused place.altitude e = z.altitudes (idle q.kind q.count layout.altitude (omega arith) (omega arith) refl e)
    in-range-unused place.uncertainty e = ap {B = Millimetres} (λ (n : ℕ). record { 0 = n }) (z.numbers.uncertainties (idle q.kind q.count layout.uncertainty (omega arith) (omega arith) refl e))
    in-range-unused place.semi_major e = ap {B = Millimetres} (λ (n : ℕ). record { 0 = n }) (z.numbers.semi_majors (idle q.kind q.count layout.semi_major (omega arith) (omega arith) refl e))
    in-range-unused place.semi_minor e = ap {B = Millimetres} (λ (n : ℕ). record { 0 = n }) (z.numbers.semi_minors (idle q.kind q.count layout.semi_minor (omega arith) (omega arith) (grouped q.kind).semi_minors e))
    in-range-unused place.orientation e = ap {B = Millidegrees} (λ (n : ℕ). record { 0 = n }) (z.numbers.orientations (idle q.kind q.count layout.orientation (omega arith) (omega arith) (grouped q.kind).orientations e))
    in-range-unused place.altitude_uncertainty e = ap {B = Millimetres} (λ (n : ℕ). record { 0 = n }) (z.numbers.altitude_uncertainties (idle q.kind q.count layout.altitude_uncertainty (omega arith) (omega arith) refl e))
    in-range-unused place.confidence e = z.confidences (idle q.kind q.count layout.confidence (omega arith) (omega arith) refl e)
    in-range-unused place.inner_radius e = ap {B = Millimetres} (λ (n : ℕ). record { 0 = n }) (z.numbers.inner_radii (idle q.kind q.count layout.inner_radius (omega arith) (omega arith) refl e))
    in-range-unused place.offset e = ap {B = Millidegrees} (λ (n : ℕ). record { 0 = n }) (z.numbers.offsets (idle q.kind q.count layout.offset (omega arith) (omega arith) (grouped q.kind).offsets e))
    in-range-unused place.included e = ap {B = Millidegrees} (λ (n : ℕ). record { 0 = n }) (z.numbers.includeds (idle q.kind q.count layout.included (omega arith) (omega arith) (grouped q.kind).includeds e))
    in-range-unused (place.latitude (suc i)) e = (points i).no_latitudes (latitude-past q.kind q.count counted i e)
    in-range-unused (place.longitude (suc i)) e = (points i).no_longitudes (longitude-past q.kind q.count counted i e)
    in-range-unused place.bearing e = refl
    in-range-unused place.horizontal_speed e = refl
    in-range-unused place.vertical_speed e = refl
    in-range-unused place.speed_uncertainty e = refl
    in-range-unused place.vertical_uncertainty e = refl

    pub in-range : QuantitiesInRange rows q.count at
    in-range = record { used = in-range-used; unused = in-range-unused; uncounted = λ e. z.counts (count-idle q.kind q.count e); axes = axes }

  -- and back
  module _ (r : QuantitiesInRange rows q.count at) where
    pub rest-zero : RestZero used-groups q
    rest-zero = record {
      latitudes = λ e. r.unused (place.latitude 0) (idle-back q.kind q.count (layout.latitude 0) (omega arith) (omega arith) refl e);
      longitudes = λ e. r.unused (place.longitude 0) (idle-back q.kind q.count (layout.longitude 0) (omega arith) (omega arith) (grouped q.kind).longitudes e);
      altitudes = λ e. r.unused (place.altitude) (idle-back q.kind q.count layout.altitude (omega arith) (omega arith) refl e);
      confidences = λ e. r.unused (place.confidence) (idle-back q.kind q.count layout.confidence (omega arith) (omega arith) refl e);
      counts = λ e. r.uncounted (count-idle-back q.kind q.count e);
      numbers = record {
        uncertainties = λ e. ap {A = Millimetres} (λ x. x.0) (r.unused place.uncertainty (idle-back q.kind q.count layout.uncertainty (omega arith) (omega arith) refl e));
        semi_majors = λ e. ap {A = Millimetres} (λ x. x.0) (r.unused place.semi_major (idle-back q.kind q.count layout.semi_major (omega arith) (omega arith) refl e));
        semi_minors = λ e. ap {A = Millimetres} (λ x. x.0) (r.unused place.semi_minor (idle-back q.kind q.count layout.semi_minor (omega arith) (omega arith) (grouped q.kind).semi_minors e));
        orientations = λ e. ap {A = Millidegrees} (λ x. x.0) (r.unused place.orientation (idle-back q.kind q.count layout.orientation (omega arith) (omega arith) (grouped q.kind).orientations e));
        altitude_uncertainties = λ e. ap {A = Millimetres} (λ x. x.0) (r.unused place.altitude_uncertainty (idle-back q.kind q.count layout.altitude_uncertainty (omega arith) (omega arith) refl e));
        inner_radii = λ e. ap {A = Millimetres} (λ x. x.0) (r.unused place.inner_radius (idle-back q.kind q.count layout.inner_radius (omega arith) (omega arith) refl e));
        offsets = λ e. ap {A = Millidegrees} (λ x. x.0) (r.unused place.offset (idle-back q.kind q.count layout.offset (omega arith) (omega arith) (grouped q.kind).offsets e));
        includeds = λ e. ap {A = Millidegrees} (λ x. x.0) (r.unused place.included (idle-back q.kind q.count layout.included (omega arith) (omega arith) (grouped q.kind).includeds e));
      };
    }

    pub ranges-kept : RangesKept used-groups.arc q
    ranges-kept = record {
      latitudes = kept field.latitude refl q.latitude 7 _ (r.used (place.latitude 0)) (r.unused (place.latitude 0));
      longitudes = kept field.longitude refl q.longitude 7 _ (r.used (place.longitude 0)) (r.unused (place.longitude 0));
      orientations = kept field.orientation refl q.orientation 7 _ (r.used (place.orientation)) (r.unused (place.orientation));
      confidences = kept field.confidence refl q.confidence 7 _ (r.used (place.confidence)) (r.unused (place.confidence));
      offsets = kept field.offset refl q.offset 7 _ (r.used (place.offset)) (r.unused (place.offset));
      includeds = λ e. r.used place.included (active-back q.kind q.count layout.included (omega arith) (omega arith) (grouped q.kind).includeds e);
    }

    pub points_kept : PointsKept q.latitudes q.longitudes q.count
    points_kept i =
        let counted = points-counted q.kind q.count r.uncounted in
        record {
          latitudes = λ e. r.used (place.latitude (suc i)) (latitude-used q.kind q.count counted i e);
          longitudes = λ e. r.used (place.longitude (suc i)) (longitude-used q.kind q.count counted i e);
          no_latitudes = λ e. r.unused (place.latitude (suc i)) (latitude-unused q.kind q.count counted i e);
          no_longitudes = λ e. r.unused (place.longitude (suc i)) (longitude-unused q.kind q.count counted i e);
        }

    -- ---- 8

    pub sizes-covered : QuantitiesCovered rows at → SizesCovered q
    sizes-covered c = record {
      uncertainties = kept field.uncertainty refl q.uncertainty 8 _ (c.used place.uncertainty) (r.unused place.uncertainty);
      semi_majors = kept field.uncertainty refl q.semi_major 8 _ (c.used place.semi_major) (r.unused place.semi_major);
      semi_minors = kept field.uncertainty refl q.semi_minor 8 _ (c.used place.semi_minor) (r.unused place.semi_minor);
      altitude_uncertainties = kept field.altitude_uncertainty refl q.altitude_uncertainty 8 _ (c.used place.altitude_uncertainty) (r.unused place.altitude_uncertainty);
    }

  module _ (s : Sizes) (codes : SizeCodes q s) where
    covered-used : (p : Place) → Used rows (row_of p) → Coding (field_of p) (at p) (refused 8) → ⊥
    covered-used (place.latitude i) u = λ x. absurd (omega (arith, x.0))
    covered-used (place.longitude i) u = λ x. absurd (omega (arith, x.0))
    covered-used place.altitude u = λ x. x.1
    covered-used place.uncertainty u = not-refused field.uncertainty q.uncertainty s.uncertainty 8 codes.uncertainties
    covered-used place.semi_major u = not-refused field.uncertainty q.semi_major s.semi_major 8 codes.semi_majors
    covered-used place.semi_minor u = not-refused field.uncertainty q.semi_minor s.semi_minor 8 codes.semi_minors
    covered-used place.orientation u = λ x. absurd (omega (arith, x.0))
    covered-used place.altitude_uncertainty u = not-refused field.altitude_uncertainty q.altitude_uncertainty s.altitude_uncertainty 8 codes.altitude_uncertainties
    covered-used place.confidence u = λ x. absurd (omega (arith, x.0))
    covered-used place.inner_radius u = λ x. x.1
    covered-used place.offset u = λ x. absurd (omega (arith, x.0))
    covered-used place.included u = λ x. absurd (omega (arith, x.0))
    covered-used place.bearing u = none layout.bearing refl u
    covered-used place.horizontal_speed u = none layout.horizontal_speed refl u
    covered-used place.vertical_speed u = none layout.vertical_speed refl u
    covered-used place.speed_uncertainty u = none layout.speed_uncertainty refl u
    covered-used place.vertical_uncertainty u = none layout.vertical_uncertainty refl u

    covered : QuantitiesCovered rows at
    covered = record { used = covered-used }

  -- ---- the record

  module _ (r : Ranged) (s : Sizes) (p : Points) (x : Shape) (kept-all : QuantitiesInRange rows q.count at) (ranged : RangedCodes used-groups.arc q r) (sized : SizeCodes q s) (points : PointsCodes q.latitudes q.longitudes q.count p) (outline : Outlined q r s x) where
    abbrev joined : Shape
    joined = with_points (outline_joined q.kind q.count outline.altitude outline.inner_radius r s) p

    points-are : points_of q.kind q.count ≡ q.count
    points-are = points-counted q.kind q.count kept-all.uncounted

    each-used : (p : Place) → Used rows (row_of p) → Coding (field_of p) (at p) (done (code_at joined p))
    each-used (place.latitude zero) u = ranged.latitudes
    each-used (place.longitude zero) u = ranged.longitudes
    each-used place.altitude u = outline.altitudes
    each-used place.uncertainty u = sized.uncertainties
    each-used place.semi_major u = sized.semi_majors
    each-used place.semi_minor u = sized.semi_minors
    each-used place.orientation u = ranged.orientations
    each-used place.altitude_uncertainty u = sized.altitude_uncertainties
    each-used place.confidence u = ranged.confidences
    each-used place.inner_radius u = outline.inner_radii
    each-used place.offset u = ranged.offsets
    each-used place.included u = subst (λ (b : Bool). IncludedCodes b q.included r.included) (active q.kind q.count layout.included (omega arith) (omega arith) (grouped q.kind).includeds u) ranged.includeds
    each-used (place.latitude (suc i)) u = (points.each i).latitudes (latitude-counted q.kind q.count points-are i u)
    each-used (place.longitude (suc i)) u = (points.each i).longitudes (longitude-counted q.kind q.count points-are i u)
    each-used place.bearing u = none layout.bearing refl u
    each-used place.horizontal_speed u = none layout.horizontal_speed refl u
    each-used place.vertical_speed u = none layout.vertical_speed refl u
    each-used place.speed_uncertainty u = none layout.speed_uncertainty refl u
    each-used place.vertical_uncertainty u = none layout.vertical_uncertainty refl u

    each-unused : (p : Place) → Unused rows (row_of p) → code_at joined p ≡ zero_code (field_of p)
    each-unused (place.latitude zero) e = zero-has-code field.latitude refl q.latitude (kept-all.unused (place.latitude 0) e) r.latitude ranged.latitudes
    each-unused (place.longitude zero) e = zero-has-code field.longitude refl q.longitude (kept-all.unused (place.longitude 0) e) r.longitude ranged.longitudes
    each-unused place.altitude e = zero-has-code field.altitude refl q.altitude (kept-all.unused place.altitude e) outline.altitude outline.altitudes
    each-unused place.uncertainty e = zero-has-code field.uncertainty refl q.uncertainty (kept-all.unused (place.uncertainty) e) s.uncertainty sized.uncertainties
    each-unused place.semi_major e = zero-has-code field.uncertainty refl q.semi_major (kept-all.unused (place.semi_major) e) s.semi_major sized.semi_majors
    each-unused place.semi_minor e = zero-has-code field.uncertainty refl q.semi_minor (kept-all.unused (place.semi_minor) e) s.semi_minor sized.semi_minors
    each-unused place.orientation e = zero-has-code field.orientation refl q.orientation (kept-all.unused (place.orientation) e) r.orientation ranged.orientations
    each-unused place.altitude_uncertainty e = zero-has-code field.altitude_uncertainty refl q.altitude_uncertainty (kept-all.unused (place.altitude_uncertainty) e) s.altitude_uncertainty sized.altitude_uncertainties
    each-unused place.confidence e = zero-has-code field.confidence refl q.confidence (kept-all.unused (place.confidence) e) r.confidence ranged.confidences
    each-unused place.inner_radius e = zero-has-code field.inner_radius refl q.inner_radius (kept-all.unused (place.inner_radius) e) outline.inner_radius outline.inner_radii
    each-unused place.offset e = zero-has-code field.offset refl q.offset (kept-all.unused (place.offset) e) r.offset ranged.offsets
    each-unused place.included e = subst (λ (b : Bool). IncludedCodes b q.included r.included) (idle q.kind q.count layout.included (omega arith) (omega arith) (grouped q.kind).includeds e) ranged.includeds
    each-unused (place.latitude (suc i)) e = ((points.each i).no_latitudes (latitude-past q.kind q.count points-are i e)).1
    each-unused (place.longitude (suc i)) e = ((points.each i).no_longitudes (longitude-past q.kind q.count points-are i e)).1
    each-unused place.bearing e = refl
    each-unused place.horizontal_speed e = refl
    each-unused place.vertical_speed e = refl
    each-unused place.speed_uncertainty e = refl
    each-unused place.vertical_uncertainty e = refl

    pub shape-done : Formed q → CodesShape q (Ok (with_points x p))
    shape-done formed = record {
      answer = met formed.listed (met formed.counted (met kept-all (met (covered s sized) refl)));
      shape = subst (λ (y : Shape). RecordOf q (with_points y p)) (sym outline.joined)
          (record { kinds = refl; counts = refl; all_latitudes = points.all_latitudes; all_longitudes = points.all_longitudes; each = record { used = each-used; unused = each-unused } });
    }

  -- ---- refusals

  pub refused-with : (why : Refusal) → CodeAnswer rows q.count at (number_of why) → CodesShape q (Err why)
  refused-with why a = record { answer = a; shape = tt }

  module _ (formed : Formed q) (why : Refusal) where
    pub out_of_range : number_of why ≡ 7 → (QuantitiesInRange rows q.count at → ⊥) → CodesShape q (Err why)
    out_of_range e n = refused-with why (met formed.listed (met formed.counted (unmet n e)))

    pub too_large : number_of why ≡ 8 → QuantitiesInRange rows q.count at → (SizesCovered q → ⊥) → CodesShape q (Err why)
    too_large e r n = refused-with why (met formed.listed (met formed.counted (met r (unmet (λ c. n (sizes-covered r c)) e))))
