-- Reports into an array: of a record that is refused, of one that is taken and has no room, and of one whose quantities are put.
--
use Rattle.std.specs.Prelude.{Ok, Err}
use Prim.Native.Nat.{ℕ, suc, ◌+◌, ◌-◌, ◌*◌, ◌≤◌, ◌<◌}
use mathlib.Core.Path.{◌≡◌, refl, sym, ap, ◌∙◌, subst}
use mathlib.Core.List.{List}
use native.Mathlib.Omega.{arith}
use lib.IntN.{ℤ, pos}
use lib.ListN.{length, replicate}
use lib.Seq.{sets}
use borrow.Author.Tests.{lt-ltb, le-ltb}
use Rattle.ground.specs.Answers.{number_of}
use Rattle.ground.specs.declared.refusals.Refusal.{Refusal}
use Rattle.ground.specs.declared.refusals.Refusal.TheVariants.{BufferTooShort}
use Rattle.layout.specs.declared.shape.Shape.{Shape}
use Rattle.layout.specs.Layout.{MessageField, count, south, latitude, longitude}
use Rattle.layout.specs.Rows.{length_of}
use Rattle.layout.specs.Demands.{WriteAnswer}
use Rattle.layout.specs.Shapes.{value_of}
use Rattle.quantities.specs.declared.shape.ShapeQuantities.{ShapeQuantities}
use Rattle.quantities.specs.Shapes.{TakesShape}
use Rattle.quantities.proofs.HeldLaws.{count_held}
use Rattle.field_reports.specs.Outlines.{OutlineHeld, OutlineReported}
use Rattle.field_reports.proofs.OutlineLaws.{with_points, pointless, outline-of, pointless-held, all-reported}
use Rattle.field_reports.proofs.SomeLaws.{some}
use Rattle.code_arrays.specs.CodeNumbers.{element_at}
use Rattle.code_arrays.specs.Shapes.{array_rows, value_in, record_in, outline_in}
use Rattle.code_arrays.proofs.ArrayLaws.{same-element, number}
use Rattle.code_arrays.proofs.ArrayRecords.{record-values}
use Rattle.limits.specs.Limits.{UsedWithin}
use Rattle.judging.specs.Judging.{RecordAnswer}
use Rattle.judging.proofs.RoomLaws.{roomy, taken}
use Rattle.quantity_arrays.specs.Shapes.{single_quantity_elements}
use Rattle.quantity_arrays.proofs.PointLaws.{quantities-put}
use Rattle.array_reports.specs.Reports.{PutsPointQuantities, ReportsInto}

-- an outline, and how many points it is said to have
abbrev with_count : Shape → ℕ → Shape
with_count x n = record {
  kind = x.kind;
  latitude = x.latitude;
  longitude = x.longitude;
  altitude = x.altitude;
  uncertainty = x.uncertainty;
  semi_major = x.semi_major;
  semi_minor = x.semi_minor;
  orientation = x.orientation;
  altitude_uncertainty = x.altitude_uncertainty;
  confidence = x.confidence;
  inner_radius = x.inner_radius;
  offset = x.offset;
  included = x.included;
  count = n;
  latitudes = x.latitudes;
  longitudes = x.longitudes;
}

module _ (elements : List ℕ) where
  pub report-refused : {before : List ℤ} (why : Refusal) → RecordAnswer (array_rows elements) (value_in elements) (number_of why) → ReportsInto elements before before (Err why)
  report-refused why h = record {
    reported = Err why;
    promise = record { answer = roomy (number_of why) h; quantities = tt };
    roomed = refl;
    array = refl;
  }

  -- ---- a record that is taken

  module _ (h : RecordAnswer (array_rows elements) (value_in elements) 0) where
    takes : TakesShape (record_in elements)
    takes =
        let same : (f : MessageField) → value_of (record_in elements) f ≡ value_in elements f = record-values elements (taken h).listed (taken h).fields in
        subst (λ (value : MessageField → ℕ). WriteAnswer (array_rows elements) value (length_of (array_rows elements)) 0) (λ j f. sym (same f) j) (roomy 0 h)

    pub few-points : element_at elements 1 ≤ 15
    few-points = rw (same-element elements 1 (omega arith)) (count_held (record_in elements) takes)

    pub points-within : (n : ℕ) → UsedWithin elements n
    points-within n i l = record {
      sign = number elements (taken h).fields (south (suc i));
      size = number elements (taken h).fields (latitude (suc i));
      turn = number elements (taken h).fields (longitude (suc i));
    }

    pub report-too-short : {before : List ℤ} → length before < 44 → ReportsInto elements before before (Err BufferTooShort)
    report-too-short {before} l = record {
      reported = Ok (some (record_in elements) takes).quantities;
      promise = record { answer = roomy 0 h; quantities = (some (record_in elements) takes).promise };
      roomed = simp (lt-ltb (length before) 44 l);
      array = refl;
    }

    module _ {x : Shape} (e : x ≡ outline_in elements) where
      outlined : with_count x (element_at elements 1) ≡ pointless (record_in elements)
      outlined = ap (λ (y : Shape). with_count y (element_at elements 1)) e ∙ ap (with_count (outline_in elements)) (same-element elements 1 (omega arith))

      pub held : OutlineHeld (with_count x (element_at elements 1))
      held = subst OutlineHeld (sym outlined) (pointless-held (record_in elements) takes)

      outline : (q : ShapeQuantities) → OutlineReported (with_count x (element_at elements 1)) q → OutlineReported (record_in elements) q
      outline q o = outline-of (record_in elements) q (subst (λ (y : Shape). OutlineReported y q) outlined o)

      module _ (q : ShapeQuantities) (o : OutlineReported (with_count x (element_at elements 1)) q) (before : List ℤ) (room : 44 ≤ length before) {put after : List ℤ}
          (p : PutsPointQuantities elements (element_at elements 1) (sets before 0 (single_quantity_elements q)) put)
          (cleared : after ≡ sets put (14 + 2 * element_at elements 1) (replicate (30 - 2 * element_at elements 1) (pos 0))) where
        pub report-put : ReportsInto elements before after (Ok tt)
        report-put =
            let n : element_at elements 1 ≡ value_in elements count = same-element elements 1 (omega arith) in
            let all = with_points q p.latitudes p.longitudes in
            record {
              reported = Ok all;
              promise = record { answer = roomy 0 h; quantities = all-reported (record_in elements) takes q (outline q o) (rw n at p.told_latitudes) (rw n at p.told_longitudes) };
              roomed = simp (le-ltb (length before) 44 room);
              array =
                  cleared
                  ∙ ap (λ (l : List ℤ). sets l (14 + 2 * element_at elements 1) (replicate (30 - 2 * element_at elements 1) (pos 0))) p.put
                  ∙ quantities-put all (element_at elements 1) p.told_latitudes.rest p.told_longitudes.rest few-points before room;
            }
