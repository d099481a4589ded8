-- A record that the writer takes has quantities: those of the table, at each place.
use Prim.Native.Nat.{ℕ, zero, suc, ◌≤◌, ◌<◌}
use mathlib.Core.Path.{◌≡◌, refl}
use mathlib.Core.Bool.{Bool, true, false}
use mathlib.Core.List.{List}
use native.Mathlib.Numerals.{add-one}
use native.Mathlib.Omega.{arith}
use lib.Dec.{ltb}
use lib.ListN.{set, replicate}
use borrow.Author.Tests.{ltb-true, ltb-false}
use Rattle.ground.specs.Answers.{done}
use Rattle.ground.specs.declared.code.IncludedCode.{IncludedCode}
use Rattle.ground.specs.declared.quantity.Millidegrees.{Millidegrees}
use Rattle.ground.specs.declared.quantity.Nanodegrees.{Nanodegrees}
use Rattle.fields.specs.Fields.{Reporting}
use Rattle.fields.specs.Fields as field
use Rattle.fields.specs.Quantities.{Held, quantity_of}
use Rattle.fields.proofs.QuantityLaws.{quantity-reported}
use Rattle.layout.specs.declared.shape.Kind.{Kind}
use Rattle.layout.specs.declared.shape.Shape.{Shape}
use Rattle.layout.specs.Layout.{shape_rows}
use Rattle.layout.specs.Layout as layout
use Rattle.layout.specs.Rows.{width_of}
use Rattle.quantities.specs.declared.shape.ShapeQuantities.{ShapeQuantities}
use Rattle.quantities.specs.Places.{Place, field_of, zero_quantity}
use Rattle.quantities.specs.Places as place
use Rattle.quantities.specs.Shapes.{code_at, zero_degrees, TakesShape, QuantitiesOf}
use Rattle.quantities.proofs.HeldLaws.{shape-held, count_held}
use Rattle.field_reports.specs.Outlines.{IncludedReported, OutlineReported}
use Rattle.field_reports.specs.Points.{Filled}
use Rattle.field_reports.proofs.FillLaws.{none_filled, one_more}
use Rattle.field_reports.proofs.OutlineLaws.{with_points, all-reported}

pub record Some (x : Shape) : Type 0 where
  pub quantities : ShapeQuantities
  pub promise : QuantitiesOf x quantities

record Points (told : ℕ → Nanodegrees → Type 0) (n : ℕ) : Type 0 where
  list : List Nanodegrees
  filled : Filled told n list

points : (told : ℕ → Nanodegrees → Type 0) (f : ℕ → Nanodegrees) (n : ℕ) → n ≤ 15 → ((i : ℕ) → i < n → told i (f i)) → Points told n
points told f zero h t = record { list = replicate 15 zero_degrees; filled = none_filled told }
points told f (suc n) h t =
    let p = points told f n (omega arith) (λ i l. t i (omega arith)) in
    record {
      list = set p.list n (f n);
      filled = rw (add-one n) at (one_more told n p.list (f n) p.filled (omega arith) (t n (omega arith)));
    }

record Angle (k : Kind) (c : IncludedCode) : Type 0 where
  angle : Millidegrees
  reported : IncludedReported k c angle

some-angle : (k : Kind) (c : IncludedCode) → Held field.included c → Angle k c
some-angle k c h = by (ltb 0 (width_of (shape_rows k 0) layout.included)) refl
  where
    by : (b : Bool) → ltb 0 (width_of (shape_rows k 0) layout.included) ≡ b → Angle k c
    by true e =
        let l = ltb-true 0 (width_of (shape_rows k 0) layout.included) e in
        record { angle = quantity_of field.included c; reported = record { used = λ u. quantity-reported field.included c h; unused = λ z. absurd (omega arith) } }
    by false e =
        let l = ltb-false 0 (width_of (shape_rows k 0) layout.included) e in
        record { angle = zero_quantity field.included; reported = record { used = λ u. absurd (omega arith); unused = λ z. refl } }

module _ (x : Shape) (t : TakesShape x) where
  told : (p : Place) → Reporting (field_of p) (code_at x p) (done (quantity_of (field_of p) (code_at x p)))
  told p = quantity-reported (field_of p) (code_at x p) (shape-held x t p)

  angle-of : Angle x.kind x.included
  angle-of = some-angle x.kind x.included (shape-held x t place.included)

  abbrev outline : ShapeQuantities
  outline = record {
    kind = x.kind;
    latitude = quantity_of field.latitude x.latitude;
    longitude = quantity_of field.longitude x.longitude;
    altitude = quantity_of field.altitude x.altitude;
    uncertainty = quantity_of field.uncertainty x.uncertainty;
    semi_major = quantity_of field.uncertainty x.semi_major;
    semi_minor = quantity_of field.uncertainty x.semi_minor;
    orientation = quantity_of field.orientation x.orientation;
    altitude_uncertainty = quantity_of field.altitude_uncertainty x.altitude_uncertainty;
    confidence = quantity_of field.confidence x.confidence;
    inner_radius = quantity_of field.inner_radius x.inner_radius;
    offset = quantity_of field.offset x.offset;
    included = angle-of.angle;
    count = x.count;
    latitudes = replicate 15 zero_degrees;
    longitudes = replicate 15 zero_degrees;
  }

  outlined : OutlineReported x outline
  outlined = record {
    kinds = refl;
    counts = refl;
    latitudes = told (place.latitude 0);
    longitudes = told (place.longitude 0);
    altitudes = told place.altitude;
    uncertainties = told place.uncertainty;
    semi_majors = told place.semi_major;
    semi_minors = told place.semi_minor;
    orientations = told place.orientation;
    altitude_uncertainties = told place.altitude_uncertainty;
    confidences = told place.confidence;
    inner_radii = told place.inner_radius;
    offsets = told place.offset;
    includeds = angle-of.reported;
    no_latitudes = refl;
    no_longitudes = refl;
  }

  pub some : Some x
  some =
      let lats = points _ (λ i. quantity_of field.latitude (code_at x (place.latitude (suc i)))) x.count (count_held x t) (λ i h. told (place.latitude (suc i))) in
      let lons = points _ (λ i. quantity_of field.longitude (code_at x (place.longitude (suc i)))) x.count (count_held x t) (λ i h. told (place.longitude (suc i))) in
      record { quantities = with_points outline lats.list lons.list; promise = all-reported x t outline outlined lats.filled lons.filled }
