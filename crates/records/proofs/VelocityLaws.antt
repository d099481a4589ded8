-- A velocity's places: from the codes that are found to what is promised of all places, and back where a test fails.
--
use Rattle.std.specs.Prelude.{Ok, Err}
use mathlib.Core.Path.{◌≡◌, refl}
use mathlib.Core.List.{List}
use native.Mathlib.Omega.{arith}
use Rattle.ground.specs.Answers.{number_of, unmet, met, done, refused}
use Rattle.ground.specs.declared.refusals.Refusal.{Refusal}
use Rattle.ground.specs.declared.code.BearingCode.{BearingCode}
use Rattle.ground.specs.declared.code.HorizontalSpeedCode.{HorizontalSpeedCode}
use Rattle.ground.specs.declared.code.VerticalSpeedCode.{VerticalSpeedCode}
use Rattle.ground.specs.declared.code.UncertaintySpeedCode.{UncertaintySpeedCode}
use Rattle.fields.specs.Fields.{Coding}
use Rattle.fields.specs.Fields as field
use Rattle.layout.specs.declared.velocity.VelocityKind.{VelocityKind}
use Rattle.layout.specs.declared.velocity.VelocityKind.TheVariants.{Nothing, Horizontal, HorizontalVertical, HorizontalUncertain, HorizontalVerticalUncertain}
use Rattle.layout.specs.declared.velocity.Velocity.{Velocity}
use Rattle.layout.specs.Layout.{MessageField, Row, count, velocity_rows}
use Rattle.layout.specs.Layout as layout
use Rattle.layout.specs.Demands.{TypeKnown, Used, CountSound}
use Rattle.layout.proofs.WidthLaws.{velocity_widest, velocity-width}
use Rattle.quantities.specs.declared.velocity.VelocityQuantities.{VelocityQuantities}
use Rattle.quantities.specs.Places.{Place, field_of, row_of, PlaceQuantities, Unused, zero_code, zero_quantity}
use Rattle.quantities.specs.Places as place
use Rattle.quantities.specs.Promises.{QuantitiesInRange, QuantitiesCovered}
use Rattle.quantities.specs.Velocities.{velocity_code_at, velocity_quantity_at, CodesVelocity}
use Rattle.records.specs.VelocityUnused.{MotionRestZero}
use Rattle.quantities.proofs.ZeroLaws.{not-refused, zero-has-code, kept}
use Rattle.quantities.proofs.TestLaws.{no_bits, no-bits-back}

pub listed-kind : (k : VelocityKind) → (k ≡ Nothing → ⊥) → TypeKnown (velocity_rows k)
listed-kind Nothing h = absurd (h refl)
listed-kind Horizontal h = omega arith
listed-kind HorizontalVertical h = omega arith
listed-kind HorizontalUncertain h = omega arith
listed-kind HorizontalVerticalUncertain h = omega arith

-- a bearing and a horizontal speed stand in every listed kind
bearing-used : (k : VelocityKind) → TypeKnown (velocity_rows k) → Used (velocity_rows k) layout.bearing
bearing-used Nothing l = absurd (omega arith)
bearing-used Horizontal l = omega arith
bearing-used HorizontalVertical l = omega arith
bearing-used HorizontalUncertain l = omega arith
bearing-used HorizontalVerticalUncertain l = omega arith

speed-used : (k : VelocityKind) → TypeKnown (velocity_rows k) → Used (velocity_rows k) layout.horizontal_speed
speed-used Nothing l = absurd (omega arith)
speed-used Horizontal l = omega arith
speed-used HorizontalVertical l = omega arith
speed-used HorizontalUncertain l = omega arith
speed-used HorizontalVerticalUncertain l = omega arith

module _ (q : VelocityQuantities) where
  abbrev rows : List Row
  rows = velocity_rows q.kind

  abbrev at : PlaceQuantities
  at = velocity_quantity_at q

  -- a shape's field is in no velocity
  none : {A : Type 0} (f : MessageField) → velocity_widest f ≡ 0 → Used rows f → A
  none f e u = absurd (omega (arith, velocity-width q.kind f))

  no-count : CountSound rows (λ f. 0)
  no-count = record { least = none count refl; most = none count refl }

  -- ---- 7

  pub in-range : TypeKnown rows → MotionRestZero q → (b : BearingCode) → Coding field.bearing q.bearing (done b) → QuantitiesInRange rows 0 at
  in-range l z b h = record { used = used; unused = unused; uncounted = λ _. refl; axes = omega arith }
    where
      used : (p : Place) → Used rows (row_of p) → Coding (field_of p) (at p) (refused 7) → ⊥
      used (place.latitude i) u = none (layout.latitude i) refl u
      used (place.longitude i) u = none (layout.longitude i) refl u
      used place.altitude u = none layout.altitude refl u
      used place.uncertainty u = none layout.uncertainty refl u
      used place.semi_major u = none layout.semi_major refl u
      used place.semi_minor u = none layout.semi_minor refl u
      used place.orientation u = none layout.orientation refl u
      used place.altitude_uncertainty u = none layout.altitude_uncertainty refl u
      used place.confidence u = none layout.confidence refl u
      used place.inner_radius u = none layout.inner_radius refl u
      used place.offset u = none layout.offset refl u
      used place.included u = none layout.included refl u
      used place.bearing u = not-refused field.bearing q.bearing b 7 h
      used place.horizontal_speed u = λ r. r.1
      used place.vertical_speed u = λ r. r.1
      used place.speed_uncertainty u = λ r. absurd (omega (arith, r.0))
      used place.vertical_uncertainty u = λ r. absurd (omega (arith, r.0))

      unused : (p : Place) → Unused rows (row_of p) → at p ≡ zero_quantity (field_of p)
      unused (place.latitude i) e = refl
      unused (place.longitude i) e = refl
      unused place.altitude e = refl
      unused place.uncertainty e = refl
      unused place.semi_major e = refl
      unused place.semi_minor e = refl
      unused place.orientation e = refl
      unused place.altitude_uncertainty e = refl
      unused place.confidence e = refl
      unused place.inner_radius e = refl
      unused place.offset e = refl
      unused place.included e = refl
      unused place.bearing e = absurd (omega (arith, bearing-used q.kind l))
      unused place.horizontal_speed e = absurd (omega (arith, speed-used q.kind l))
      unused place.vertical_speed e = z.vertical_speeds (no_bits _ e)
      unused place.speed_uncertainty e = z.uncertainties (no_bits _ e)
      unused place.vertical_uncertainty e = z.vertical_uncertainties (no_bits _ e)

  rest-zero : QuantitiesInRange rows 0 at → MotionRestZero q
  rest-zero r = record {
    vertical_speeds = λ e. r.unused place.vertical_speed (no-bits-back _ e);
    uncertainties = λ e. r.unused place.speed_uncertainty (no-bits-back _ e);
    vertical_uncertainties = λ e. r.unused place.vertical_uncertainty (no-bits-back _ e);
  }

  -- ---- 8

  covered : (c d : UncertaintySpeedCode) → Coding field.uncertainty_speed q.uncertainty (done c) → Coding field.uncertainty_speed q.vertical_uncertainty (done d) → QuantitiesCovered rows at
  covered c d g h = record { used = used }
    where
      used : (p : Place) → Used rows (row_of p) → Coding (field_of p) (at p) (refused 8) → ⊥
      used (place.latitude i) u = none (layout.latitude i) refl u
      used (place.longitude i) u = none (layout.longitude i) refl u
      used place.altitude u = none layout.altitude refl u
      used place.uncertainty u = none layout.uncertainty refl u
      used place.semi_major u = none layout.semi_major refl u
      used place.semi_minor u = none layout.semi_minor refl u
      used place.orientation u = none layout.orientation refl u
      used place.altitude_uncertainty u = none layout.altitude_uncertainty refl u
      used place.confidence u = none layout.confidence refl u
      used place.inner_radius u = none layout.inner_radius refl u
      used place.offset u = none layout.offset refl u
      used place.included u = none layout.included refl u
      used place.bearing u = λ r. absurd (omega (arith, r.0))
      used place.horizontal_speed u = λ r. r.1
      used place.vertical_speed u = λ r. r.1
      used place.speed_uncertainty u = not-refused field.uncertainty_speed q.uncertainty c 8 g
      used place.vertical_uncertainty u = not-refused field.uncertainty_speed q.vertical_uncertainty d 8 h

  -- ---- the record

  module _ (b : BearingCode) (s : HorizontalSpeedCode) (v : VerticalSpeedCode) (c d : UncertaintySpeedCode) where
    abbrev record_of : Velocity
    record_of = record { kind = q.kind; bearing = b; horizontal_speed = s; vertical_speed = v; uncertainty = c; vertical_uncertainty = d }

    pub velocity-done : TypeKnown rows → QuantitiesInRange rows 0 at → Coding field.bearing q.bearing (done b) → Coding field.horizontal_speed q.horizontal_speed (done s) → Coding field.vertical_speed q.vertical_speed (done v)
        → Coding field.uncertainty_speed q.uncertainty (done c) → Coding field.uncertainty_speed q.vertical_uncertainty (done d) → CodesVelocity q (Ok record_of)
    velocity-done l r hb hs hv hc hd = record {
      answer = met l (met no-count (met r (met (covered c d hc hd) refl)));
      velocity = record { kinds = refl; each = record { used = used; unused = unused } };
    }
      where
        used : (p : Place) → Used rows (row_of p) → Coding (field_of p) (at p) (done (velocity_code_at record_of p))
        used (place.latitude i) u = none (layout.latitude i) refl u
        used (place.longitude i) u = none (layout.longitude i) refl u
        used place.altitude u = none layout.altitude refl u
        used place.uncertainty u = none layout.uncertainty refl u
        used place.semi_major u = none layout.semi_major refl u
        used place.semi_minor u = none layout.semi_minor refl u
        used place.orientation u = none layout.orientation refl u
        used place.altitude_uncertainty u = none layout.altitude_uncertainty refl u
        used place.confidence u = none layout.confidence refl u
        used place.inner_radius u = none layout.inner_radius refl u
        used place.offset u = none layout.offset refl u
        used place.included u = none layout.included refl u
        used place.bearing u = hb
        used place.horizontal_speed u = hs
        used place.vertical_speed u = hv
        used place.speed_uncertainty u = hc
        used place.vertical_uncertainty u = hd

        unused : (p : Place) → Unused rows (row_of p) → velocity_code_at record_of p ≡ zero_code (field_of p)
        unused (place.latitude i) e = refl
        unused (place.longitude i) e = refl
        unused place.altitude e = refl
        unused place.uncertainty e = refl
        unused place.semi_major e = refl
        unused place.semi_minor e = refl
        unused place.orientation e = refl
        unused place.altitude_uncertainty e = refl
        unused place.confidence e = refl
        unused place.inner_radius e = refl
        unused place.offset e = refl
        unused place.included e = refl
        unused place.bearing e = zero-has-code field.bearing refl q.bearing (r.unused place.bearing e) b hb
        unused place.horizontal_speed e = zero-has-code field.horizontal_speed refl q.horizontal_speed (r.unused place.horizontal_speed e) s hs
        unused place.vertical_speed e = zero-has-code field.vertical_speed refl q.vertical_speed (r.unused place.vertical_speed e) v hv
        unused place.speed_uncertainty e = zero-has-code field.uncertainty_speed refl q.uncertainty (r.unused place.speed_uncertainty e) c hc
        unused place.vertical_uncertainty e = zero-has-code field.uncertainty_speed refl q.vertical_uncertainty (r.unused place.vertical_uncertainty e) d hd

  -- ---- refusals

  module _ (why : Refusal) where
    module _ (l : TypeKnown rows) where
      out : number_of why ≡ 7 → (QuantitiesInRange rows 0 at → ⊥) → CodesVelocity q (Err why)
      out e n = record { answer = met l (met no-count (unmet n e)); velocity = tt }

      pub rest-refused : number_of why ≡ 7 → (MotionRestZero q → ⊥) → CodesVelocity q (Err why)
      rest-refused e n = out e (λ r. n (rest-zero r))

      pub bearing-refused : Coding field.bearing q.bearing (refused (number_of why)) → CodesVelocity q (Err why)
      bearing-refused n = out n.0 (λ r. r.used place.bearing (bearing-used q.kind l) (refl, n.1))

      module _ (r : QuantitiesInRange rows 0 at) where
        large : number_of why ≡ 8 → (QuantitiesCovered rows at → ⊥) → CodesVelocity q (Err why)
        large e n = record { answer = met l (met no-count (met r (unmet n e))); velocity = tt }

        pub uncertainty-refused : Coding field.uncertainty_speed q.uncertainty (refused (number_of why)) → CodesVelocity q (Err why)
        uncertainty-refused n = large n.0 (λ c. kept field.uncertainty_speed refl q.uncertainty 8 _ (c.used place.speed_uncertainty) (r.unused place.speed_uncertainty) (refl, n.1))

        pub vertical-refused : Coding field.uncertainty_speed q.vertical_uncertainty (refused (number_of why)) → CodesVelocity q (Err why)
        vertical-refused n = large n.0 (λ c. kept field.uncertainty_speed refl q.vertical_uncertainty 8 _ (c.used place.vertical_uncertainty) (r.unused place.vertical_uncertainty) (refl, n.1))
