-- What is reported of the codes of a velocity that the writer takes are its quantities.
use mathlib.Core.Path.{◌≡◌, refl}
use mathlib.Core.Bool.{true}
use native.Mathlib.Omega.{arith}
use Rattle.ground.specs.Answers.{done}
use Rattle.fields.specs.Fields.{Reporting}
use Rattle.fields.specs.Fields as field
use Rattle.layout.specs.declared.velocity.Velocity.{Velocity}
use Rattle.layout.specs.Layout.{MessageField, velocity_rows}
use Rattle.layout.specs.Layout as layout
use Rattle.layout.specs.Demands.{Used}
use Rattle.layout.proofs.WidthLaws.{velocity_widest, velocity-width}
use Rattle.quantities.specs.declared.velocity.VelocityQuantities.{VelocityQuantities}
use Rattle.quantities.specs.Places.{Place, field_of, row_of, Unused, zero_quantity}
use Rattle.quantities.specs.Places as place
use Rattle.quantities.specs.Velocities.{velocity_code_at, velocity_quantity_at, TakesVelocity, VelocityQuantitiesOf}
use Rattle.quantities.proofs.HeldLaws.{motion-taken}
use Rattle.quantities.proofs.ZeroLaws.{has_zero, reports-zero}
use Rattle.quantities.proofs.UnusedLaws.{unused-motion}

module _ (x : Velocity) (t : TakesVelocity x) where
  module _ (q : VelocityQuantities) (bearings : Reporting field.bearing x.bearing (done q.bearing))
      (horizontals : Reporting field.horizontal_speed x.horizontal_speed (done q.horizontal_speed))
      (verticals : Reporting field.vertical_speed x.vertical_speed (done q.vertical_speed))
      (uncertainties : Reporting field.uncertainty_speed x.uncertainty (done q.uncertainty))
      (vertical_uncertainties : Reporting field.uncertainty_speed x.vertical_uncertainty (done q.vertical_uncertainty)) where
    no-motion : (f : MessageField) → velocity_widest f ≡ 0 → Used (velocity_rows x.kind) f → ⊥
    no-motion f e u = let l = velocity-width x.kind f in absurd (omega arith)

    motion-used : (p : Place) → Used (velocity_rows x.kind) (row_of p) → Reporting (field_of p) (velocity_code_at x p) (done (velocity_quantity_at q p))
    motion-used place.bearing u = bearings
    motion-used place.horizontal_speed u = horizontals
    motion-used place.vertical_speed u = verticals
    motion-used place.speed_uncertainty u = uncertainties
    motion-used place.vertical_uncertainty u = vertical_uncertainties
    motion-used (place.latitude i) u = absurd (no-motion (layout.latitude i) refl u)
    motion-used (place.longitude i) u = absurd (no-motion (layout.longitude i) refl u)
    motion-used place.altitude u = absurd (no-motion layout.altitude refl u)
    motion-used place.uncertainty u = absurd (no-motion layout.uncertainty refl u)
    motion-used place.semi_major u = absurd (no-motion layout.semi_major refl u)
    motion-used place.semi_minor u = absurd (no-motion layout.semi_minor refl u)
    motion-used place.orientation u = absurd (no-motion layout.orientation refl u)
    motion-used place.altitude_uncertainty u = absurd (no-motion layout.altitude_uncertainty refl u)
    motion-used place.confidence u = absurd (no-motion layout.confidence refl u)
    motion-used place.inner_radius u = absurd (no-motion layout.inner_radius refl u)
    motion-used place.offset u = absurd (no-motion layout.offset refl u)
    motion-used place.included u = absurd (no-motion layout.included refl u)

    motion-zero : (p : Place) → has_zero (field_of p) ≡ true → Unused (velocity_rows x.kind) (row_of p) → Reporting (field_of p) (velocity_code_at x p) (done (velocity_quantity_at q p)) → velocity_quantity_at q p ≡ zero_quantity (field_of p)
    motion-zero p h e r = reports-zero (field_of p) (velocity_code_at x p) (velocity_quantity_at q p) h (unused-motion x (motion-taken x t).fields p e) r

    motion-unused : (p : Place) → Unused (velocity_rows x.kind) (row_of p) → velocity_quantity_at q p ≡ zero_quantity (field_of p)
    motion-unused place.bearing e = motion-zero place.bearing refl e bearings
    motion-unused place.horizontal_speed e = motion-zero place.horizontal_speed refl e horizontals
    motion-unused place.vertical_speed e = motion-zero place.vertical_speed refl e verticals
    motion-unused place.speed_uncertainty e = motion-zero place.speed_uncertainty refl e uncertainties
    motion-unused place.vertical_uncertainty e = motion-zero place.vertical_uncertainty refl e vertical_uncertainties
    motion-unused (place.latitude i) e = refl
    motion-unused (place.longitude i) e = refl
    motion-unused place.altitude e = refl
    motion-unused place.uncertainty e = refl
    motion-unused place.semi_major e = refl
    motion-unused place.semi_minor e = refl
    motion-unused place.orientation e = refl
    motion-unused place.altitude_uncertainty e = refl
    motion-unused place.confidence e = refl
    motion-unused place.inner_radius e = refl
    motion-unused place.offset e = refl
    motion-unused place.included e = refl

    pub motion-reported : q.kind ≡ x.kind → VelocityQuantitiesOf x q
    motion-reported k = record { kinds = k; each = record { used = motion-used; unused = motion-unused } }
