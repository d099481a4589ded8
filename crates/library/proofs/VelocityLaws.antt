-- A velocity's record that is made of elements is answered as the elements' own numbers are.
use Rattle.std.specs.Prelude.{Result}
use Prim.Native.Nat.{ℕ, ◌^◌, ◌<◌}
use mathlib.Core.Path.{◌≡◌, refl, sym, ap, subst, ◌∙◌}
use mathlib.Core.List.{List}
use native.Mathlib.Omega.{arith}
use Rattle.ground.specs.Answers.{outcome_number}
use Rattle.ground.specs.declared.refusals.Refusal.{Refusal}
use Rattle.layout.specs.Layout.{MessageField, Row, velocity_rows, velocity_type_of}
use Rattle.layout.specs.Layout as layout
use Rattle.layout.specs.Rows.{length_of}
use Rattle.layout.specs.Demands.{TypeKnown, InFields, WriteAnswer, Writes}
use Rattle.layout.specs.Velocities.{velocity_kind_of, velocity_of, velocity_value_of, WritesVelocity}
use Rattle.layout.proofs.TypeLaws.{no-velocity-kind}
use Rattle.layout.proofs.DemandLaws.{sound}
use Rattle.layout.proofs.WidthLaws.{velocity_widest, velocity-code-of}
use Rattle.layout.proofs.ShapeRecords.{bit-back}
use Rattle.layout.proofs.VelocityTrips.{type-back, velocity-of-values}
use Rattle.code_arrays.specs.CodeNumbers.{element_at, capped}
use Rattle.code_arrays.specs.Answers.{else_out_of_range}
use Rattle.code_arrays.proofs.NumberLaws.{under}
use Rattle.code_arrays.specs.Velocities.{velocity_value_in, array_velocity_rows, velocity_record_in, held_velocity, WholeVelocity}
use Rattle.library.proofs.AnswerLaws.{answer-alike, writes-alike, same_kind, cut, Alike, misfit}

-- a number past the table is of no kind, also where it is cut
kind-held : (n : ℕ) → velocity_kind_of (capped 255 n) ≡ velocity_kind_of n
kind-held = same_kind velocity_kind_of 255 (λ n h. sym (no-velocity-kind n (λ e. absurd (omega arith)) (λ e. absurd (omega arith)) (λ e. absurd (omega arith)) (λ e. absurd (omega arith))))

module _ (elements : List ℕ) where
  rows-held : velocity_rows (held_velocity elements).kind ≡ array_velocity_rows elements
  rows-held = ap velocity_rows (kind-held (element_at elements 0))

  module _ (whole : WholeVelocity elements) where
    value-held : TypeKnown (array_velocity_rows elements) → (f : MessageField) → velocity_value_of (held_velocity elements) f ≡ velocity_value_in elements f
    value-held l layout.type_number = ap velocity_type_of (kind-held (element_at elements 0)) ∙ type-back (element_at elements 0) l
    value-held l layout.bearing = sym (under whole.turn)
    value-held l layout.horizontal_speed = sym (under whole.horizontal)
    value-held l layout.down = bit-back (element_at elements 3) (omega arith)
    value-held l layout.vertical_speed = sym (under whole.vertical)
    value-held l layout.speed_uncertainty = sym (under whole.speed)
    value-held l layout.vertical_uncertainty = sym (under whole.vertical_speed)
    value-held l layout.count = refl
    value-held l (layout.south i) = refl
    value-held l (layout.latitude i) = refl
    value-held l (layout.longitude i) = refl
    value-held l layout.depth = refl
    value-held l layout.altitude = refl
    value-held l layout.uncertainty = refl
    value-held l layout.semi_major = refl
    value-held l layout.semi_minor = refl
    value-held l layout.orientation = refl
    value-held l layout.altitude_uncertainty = refl
    value-held l layout.confidence = refl
    value-held l layout.inner_radius = refl
    value-held l layout.offset = refl
    value-held l layout.included = refl

    pub held-velocity-writes : (before after : List ℕ) (w : Result ℕ Refusal) → WritesVelocity (held_velocity elements) before after w → Writes (array_velocity_rows elements) (velocity_value_in elements) before after w
    held-velocity-writes before after w h =
        writes-alike (array_velocity_rows elements) (velocity_value_of (held_velocity elements)) (velocity_value_in elements) value-held before after w
        (subst (λ (rows : List Row). Writes rows (velocity_value_of (held_velocity elements)) before after w) rows-held h)

    pub held-velocity-answer : (m : ℕ) → WriteAnswer (velocity_rows (held_velocity elements).kind) (velocity_value_of (held_velocity elements)) (length_of (velocity_rows (held_velocity elements).kind)) m
        → WriteAnswer (array_velocity_rows elements) (velocity_value_in elements) (length_of (array_velocity_rows elements)) m
    held-velocity-answer m h =
        answer-alike (array_velocity_rows elements) (velocity_value_of (held_velocity elements)) (velocity_value_in elements) value-held (length_of (array_velocity_rows elements)) m
        (subst (λ (rows : List Row). WriteAnswer rows (velocity_value_of (held_velocity elements)) (length_of rows) m) rows-held h)

    pub held-velocity-record : (room : ℕ) → WriteAnswer (array_velocity_rows elements) (velocity_value_in elements) room 0 → held_velocity elements ≡ velocity_record_in elements
    held-velocity-record room h =
        let s = (sound (array_velocity_rows elements) (velocity_value_in elements) room h).0 in
        sym (velocity-of-values (held_velocity elements))
        ∙ (λ i. velocity_of (kind-held (element_at elements 0) i) (λ f. value-held s.listed f i))

  alike : Alike (velocity_rows (held_velocity elements).kind) (array_velocity_rows elements) (velocity_value_of (held_velocity elements)) (velocity_value_in elements)
  alike = subst (λ (rows : List Row). Alike rows (array_velocity_rows elements) (velocity_value_of (held_velocity elements)) (velocity_value_in elements)) (sym rows-held) (record {
    listed = λ l. l;
    listed_back = λ l. l;
    count-width = refl;
    widths = λ f l m. refl;
    least = cut 255 3 0 (omega arith) refl;
    most = cut 255 16 0 (omega arith) refl;
    orientations = cut 255 180 0 (omega arith) refl;
    offsets = cut 255 180 0 (omega arith) refl;
    includeds = cut 255 180 0 (omega arith) refl;
    bearings = cut 65535 360 (element_at elements 1) (omega arith) refl;
    confidences = cut 255 101 0 (omega arith) refl;
  })

  whole_of : InFields (array_velocity_rows elements) (velocity_value_in elements) → WholeVelocity elements
  whole_of h =
      let code : (f : MessageField) → velocity_value_in elements f < 2 ^ velocity_widest f = velocity-code-of (velocity_kind_of (element_at elements 0)) (velocity_value_in elements) h in
      record {
        turn = omega (arith, code layout.bearing);
        horizontal = omega (arith, code layout.horizontal_speed);
        direction = omega (arith, code layout.down);
        vertical = omega (arith, code layout.vertical_speed);
        speed = omega (arith, code layout.speed_uncertainty);
        vertical_speed = omega (arith, code layout.vertical_uncertainty);
      }

  pub held-velocity-misfit : (WholeVelocity elements → ⊥) → (o : Result Unit Refusal) (room : ℕ) → WriteAnswer (velocity_rows (held_velocity elements).kind) (velocity_value_of (held_velocity elements)) (length_of (velocity_rows (held_velocity elements).kind)) (outcome_number o)
      → WriteAnswer (array_velocity_rows elements) (velocity_value_in elements) room (outcome_number (else_out_of_range o))
  held-velocity-misfit n o room = misfit o alike (λ h. n (whole_of h)) room
