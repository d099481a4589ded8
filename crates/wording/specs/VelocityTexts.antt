-- THE TEXT OF A VELOCITY, document 01, "The lister": the answer 0, the type and the reported quantities, bearing first.
use Rattle.std.specs.Prelude.{List, [], ◌∷◌, ◌++◌, ℕ}
use Rattle.fields.specs.Fields as field
use Rattle.text.specs.Text.{decimal}
use Rattle.layout.specs.declared.velocity.VelocityKind.{VelocityKind}
use Rattle.layout.specs.declared.velocity.VelocityKind.TheVariants.{Nothing, Horizontal, HorizontalVertical, HorizontalUncertain, HorizontalVerticalUncertain}
use Rattle.layout.specs.declared.velocity.Velocity.{Velocity}
use Rattle.layout.specs.Layout.{velocity_rows, velocity_type_of}
use Rattle.quantities.specs.Velocities.{velocity_code_at}
use Rattle.wording.specs.Numbers.{rows_text, code_text}

-- "0 ", the type, and the quantities
unfoldable pub velocity_text : Velocity → List ℕ
velocity_text x = 48 ∷ 32 ∷ decimal (velocity_type_of x.kind) ++ rows_text (velocity_code_at x) 0 (velocity_rows x.kind)

-- what a velocity's kind has after the bearing and the horizontal speed
abbrev pub motion_rest : VelocityKind → Velocity → List ℕ
motion_rest Nothing x = []
motion_rest Horizontal x = []
motion_rest HorizontalVertical x = code_text field.vertical_speed x.vertical_speed
motion_rest HorizontalUncertain x = code_text field.uncertainty_speed x.uncertainty
motion_rest HorizontalVerticalUncertain x =
    code_text field.vertical_speed x.vertical_speed ++ code_text field.uncertainty_speed x.uncertainty ++ code_text field.uncertainty_speed x.vertical_uncertainty
