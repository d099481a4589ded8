-- A VELOCITY'S QUANTITIES IN 6 ELEMENTS.
use Rattle.std.specs.Prelude.{List, [], ◌∷◌, ℤ, pos}
use Rattle.layout.specs.Layout.{velocity_type_of}
use Rattle.layout.specs.Velocities.{velocity_kind_of}
use Rattle.quantities.specs.declared.velocity.VelocityQuantities.{VelocityQuantities}
use Rattle.code_arrays.specs.QuantityNumbers.{quantity_in, Natural32, Signed32, natural_of, signed_of}
use Rattle.quantity_arrays.specs.Numbers.{octet_of, Optional, uncertainty_speed_of, uncertainty_speed_element}

-- ---- THE LAYOUT: quantities in their elements

abbrev pub velocity_quantity_elements : VelocityQuantities → List ℤ
velocity_quantity_elements q =
    pos (velocity_type_of q.kind) ∷ pos q.bearing.0 ∷ pos q.horizontal_speed.0 ∷ q.vertical_speed.0 ∷ uncertainty_speed_element q.uncertainty ∷ uncertainty_speed_element q.vertical_uncertainty ∷ []

-- ---- the quantities that elements say

abbrev pub velocity_quantities_in : List ℤ → VelocityQuantities
velocity_quantities_in elements = record {
  kind = velocity_kind_of (octet_of (quantity_in elements 0));
  bearing = record { 0 = natural_of (quantity_in elements 1) };
  horizontal_speed = record { 0 = natural_of (quantity_in elements 2) };
  vertical_speed = record { 0 = signed_of (quantity_in elements 3) };
  uncertainty = uncertainty_speed_of (quantity_in elements 4);
  vertical_uncertainty = uncertainty_speed_of (quantity_in elements 5);
}

-- Quantities arrive signed in 32 bits for the vertical speed, unsigned in 32 otherwise.
pub record VelocityArrives (elements : List ℤ) : Type 0 where
  pub turn : Natural32 (quantity_in elements 1)
  pub speed : Natural32 (quantity_in elements 2)
  pub vertical : Signed32 (quantity_in elements 3)
  pub sureness : Optional (quantity_in elements 4)
  pub vertical_sureness : Optional (quantity_in elements 5)
