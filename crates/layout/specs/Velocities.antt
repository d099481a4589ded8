-- A velocity's record against the layout table.
use Rattle.std.specs.Prelude.{◌≡◌, List, [], ◌∷◌, ℕ, get_or, Result, IfOk}
use Rattle.ground.specs.Answers.{outcome_number}
use Rattle.ground.specs.declared.refusals.Refusal.{Refusal}
use Rattle.octets.specs.Bits.{bits}
use Rattle.octets.specs.Codes.{bit_of, sign_of}
use Rattle.layout.specs.declared.velocity.VelocityKind.{VelocityKind}
use Rattle.layout.specs.declared.velocity.VelocityKind.TheVariants.{Nothing, Horizontal, HorizontalVertical, HorizontalUncertain, HorizontalVerticalUncertain}
use Rattle.layout.specs.declared.velocity.Velocity.{Velocity}
use Rattle.layout.specs.Layout.{MessageField, Row, velocity_rows, velocity_type_of}
use Rattle.layout.specs.Layout as layout
use Rattle.layout.specs.Rows.{read}
use Rattle.layout.specs.Demands.{ReadAnswer, Writes}

-- the kind of a type number; none: nothing
abbrev pub velocity_kind_of : ℕ → VelocityKind
velocity_kind_of n = get_or (Horizontal ∷ HorizontalVertical ∷ HorizontalUncertain ∷ HorizontalVerticalUncertain ∷ []) n Nothing

-- ---- a record from the numbers of its fields, and the numbers of a record's fields

abbrev pub velocity_of : VelocityKind → (MessageField → ℕ) → Velocity
velocity_of k value = record {
  kind = k;
  bearing = record { 0 = value layout.bearing };
  horizontal_speed = record { 0 = value layout.horizontal_speed };
  vertical_speed = record { 0 = sign_of (value layout.down); 1 = value layout.vertical_speed };
  uncertainty = record { 0 = value layout.speed_uncertainty };
  vertical_uncertainty = record { 0 = value layout.vertical_uncertainty };
}

abbrev pub blank_velocity : VelocityKind → Velocity
blank_velocity k = velocity_of k (λ f. 0)

abbrev pub velocity_value_of : Velocity → MessageField → ℕ
velocity_value_of x layout.type_number = velocity_type_of x.kind
velocity_value_of x layout.bearing = x.bearing.0
velocity_value_of x layout.horizontal_speed = x.horizontal_speed.0
velocity_value_of x layout.down = bit_of x.vertical_speed.0
velocity_value_of x layout.vertical_speed = x.vertical_speed.1
velocity_value_of x layout.speed_uncertainty = x.uncertainty.0
velocity_value_of x layout.vertical_uncertainty = x.vertical_uncertainty.0
velocity_value_of x layout.count = 0
velocity_value_of x (layout.south i) = 0
velocity_value_of x (layout.latitude i) = 0
velocity_value_of x (layout.longitude i) = 0
velocity_value_of x layout.depth = 0
velocity_value_of x layout.altitude = 0
velocity_value_of x layout.uncertainty = 0
velocity_value_of x layout.semi_major = 0
velocity_value_of x layout.semi_minor = 0
velocity_value_of x layout.orientation = 0
velocity_value_of x layout.altitude_uncertainty = 0
velocity_value_of x layout.confidence = 0
velocity_value_of x layout.inner_radius = 0
velocity_value_of x layout.offset = 0
velocity_value_of x layout.included = 0

-- ---- the promises

abbrev pub velocity_kind_in : List ℕ → VelocityKind
velocity_kind_in s = velocity_kind_of (bits s 0 4)

abbrev pub velocity_rows_in : List ℕ → List Row
velocity_rows_in s = velocity_rows (velocity_kind_in s)

abbrev pub velocity_in : List ℕ → Velocity
velocity_in s = velocity_of (velocity_kind_in s) (read s (velocity_rows_in s))

pub record ReadsVelocity (s : List ℕ) (r : Result Velocity Refusal) : Type 0 where
  pub answer : ReadAnswer (velocity_rows_in s) s (outcome_number r)
  pub velocity : IfOk r (λ x. x ≡ velocity_in s)

abbrev pub WritesVelocity : Velocity → List ℕ → List ℕ → Result ℕ Refusal → Type 0
WritesVelocity x = Writes (velocity_rows x.kind) (velocity_value_of x)
