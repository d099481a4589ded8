-- A VELOCITY'S CODES IN 7 ELEMENTS.
use Rattle.std.specs.Prelude.{List, [], ◌∷◌, ℕ, ◌≤◌, eqb}
use Rattle.octets.specs.Codes.{bit_of}
use Rattle.layout.specs.declared.velocity.Velocity.{Velocity}
use Rattle.layout.specs.Layout.{MessageField, Row, velocity_rows, velocity_type_of}
use Rattle.layout.specs.Layout as layout
use Rattle.layout.specs.Velocities.{velocity_kind_of, velocity_of}
use Rattle.code_arrays.specs.CodeNumbers.{element_at, capped}

-- ---- THE LAYOUT: a record in its elements

abbrev pub velocity_elements : Velocity → List ℕ
velocity_elements x =
    velocity_type_of x.kind ∷ x.bearing.0 ∷ x.horizontal_speed.0 ∷ bit_of x.vertical_speed.0 ∷ x.vertical_speed.1 ∷ x.uncertainty.0 ∷ x.vertical_uncertainty.0 ∷ []

-- ---- the record that elements say

-- the number of every field; a shape's are 0
abbrev pub velocity_value_in : List ℕ → MessageField → ℕ
velocity_value_in elements layout.type_number = element_at elements 0
velocity_value_in elements layout.bearing = element_at elements 1
velocity_value_in elements layout.horizontal_speed = element_at elements 2
velocity_value_in elements layout.down = element_at elements 3
velocity_value_in elements layout.vertical_speed = element_at elements 4
velocity_value_in elements layout.speed_uncertainty = element_at elements 5
velocity_value_in elements layout.vertical_uncertainty = element_at elements 6
velocity_value_in elements layout.count = 0
velocity_value_in elements (layout.south i) = 0
velocity_value_in elements (layout.latitude i) = 0
velocity_value_in elements (layout.longitude i) = 0
velocity_value_in elements layout.depth = 0
velocity_value_in elements layout.altitude = 0
velocity_value_in elements layout.uncertainty = 0
velocity_value_in elements layout.semi_major = 0
velocity_value_in elements layout.semi_minor = 0
velocity_value_in elements layout.orientation = 0
velocity_value_in elements layout.altitude_uncertainty = 0
velocity_value_in elements layout.confidence = 0
velocity_value_in elements layout.inner_radius = 0
velocity_value_in elements layout.offset = 0
velocity_value_in elements layout.included = 0

abbrev pub array_velocity_rows : List ℕ → List Row
array_velocity_rows elements = velocity_rows (velocity_kind_of (velocity_value_in elements layout.type_number))

-- the record, where each number is within its field
abbrev pub velocity_record_in : List ℕ → Velocity
velocity_record_in elements = velocity_of (velocity_kind_of (velocity_value_in elements layout.type_number)) (velocity_value_in elements)

-- ---- the record that is made of elements, whatever they hold

abbrev pub held_velocity : List ℕ → Velocity
held_velocity elements = record {
  kind = velocity_kind_of (capped 255 (element_at elements 0));
  bearing = record { 0 = capped 65535 (element_at elements 1) };
  horizontal_speed = record { 0 = capped 65535 (element_at elements 2) };
  vertical_speed = record { 0 = eqb (element_at elements 3) 1; 1 = capped 255 (element_at elements 4) };
  uncertainty = record { 0 = capped 255 (element_at elements 5) };
  vertical_uncertainty = record { 0 = capped 255 (element_at elements 6) };
}

-- each number is one that its code's type holds; any number names a type or none
pub record WholeVelocity (elements : List ℕ) : Type 0 where
  pub turn : element_at elements 1 ≤ 65535
  pub horizontal : element_at elements 2 ≤ 65535
  pub direction : element_at elements 3 ≤ 1
  pub vertical : element_at elements 4 ≤ 255
  pub speed : element_at elements 5 ≤ 255
  pub vertical_speed : element_at elements 6 ≤ 255
