-- A velocity's text over the layout table's rows is that of its parts, in the order in which they are put.
use mathlib.Core.Path.{◌≡◌, ap}
use mathlib.Core.List.{List, ◌++◌, append_assoc, append-nil}
use Prim.Native.Nat.{ℕ}
use native.Mathlib.Omega.{arith}
use Rattle.fields.specs.Fields as field
use Rattle.layout.specs.declared.velocity.VelocityKind.{VelocityKind}
use Rattle.layout.specs.declared.velocity.VelocityKind.TheVariants as velocity
use Rattle.layout.specs.declared.velocity.Velocity.{Velocity}
use Rattle.layout.specs.Layout.{velocity_rows, velocity_type_of}
use Rattle.layout.specs.Demands.{TypeKnown}
use Rattle.quantities.specs.Velocities.{velocity_code_at}
use Rattle.wording.specs.Numbers.{rows_text, head_text, code_text}
use Rattle.wording.specs.VelocityTexts.{velocity_text, motion_rest}

module _ (x : Velocity) where
  motion-rows : (k : VelocityKind) → TypeKnown (velocity_rows k) → code_text field.bearing x.bearing ++ (code_text field.horizontal_speed x.horizontal_speed ++ motion_rest k x) ≡ rows_text (velocity_code_at x) 0 (velocity_rows k)
  unfolding code_text
  motion-rows velocity.Nothing l = absurd (omega arith)
  motion-rows velocity.Horizontal l = simp append-nil
  motion-rows velocity.HorizontalVertical l = simp append-nil
  motion-rows velocity.HorizontalUncertain l = simp append-nil
  motion-rows velocity.HorizontalVerticalUncertain l = simp (append_assoc, append-nil)

  pub motion-text : TypeKnown (velocity_rows x.kind) → head_text (velocity_type_of x.kind) ++ (code_text field.bearing x.bearing ++ (code_text field.horizontal_speed x.horizontal_speed ++ motion_rest x.kind x)) ≡ velocity_text x
  unfolding head_text velocity_text
  motion-text l = ap (λ (t : List ℕ). head_text (velocity_type_of x.kind) ++ t) (motion-rows x.kind l)
