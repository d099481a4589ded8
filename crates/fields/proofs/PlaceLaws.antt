-- A place is one field's.
use mathlib.Core.Path.{◌≡◌, refl, sym, ap, ◌∙◌}
use mathlib.Core.List.{List, [], ◌∷◌}
use Prim.Native.Nat.{ℕ, ◌≤◌, ◌<◌}
use native.Mathlib.Omega.{arith}
use lib.ListN.{get_or}
use Rattle.fields.specs.Fields.{Field}
use Rattle.fields.specs.Fields as field
use Rattle.fields.specs.Places.{place_of}

abbrev pub all : List Field
all = field.latitude ∷ field.longitude ∷ field.uncertainty ∷ field.altitude_uncertainty ∷ field.altitude ∷ field.inner_radius ∷ field.offset ∷ field.included ∷ field.orientation ∷ field.bearing ∷ field.horizontal_speed ∷ field.vertical_speed ∷ field.uncertainty_speed ∷ field.confidence ∷ []

pub at_place : (f : Field) → (get_or all (place_of f) field.confidence ≡ f) × (place_of f < 14)
at_place field.latitude = (refl, omega arith)
at_place field.longitude = (refl, omega arith)
at_place field.uncertainty = (refl, omega arith)
at_place field.altitude_uncertainty = (refl, omega arith)
at_place field.altitude = (refl, omega arith)
at_place field.inner_radius = (refl, omega arith)
at_place field.offset = (refl, omega arith)
at_place field.included = (refl, omega arith)
at_place field.orientation = (refl, omega arith)
at_place field.bearing = (refl, omega arith)
at_place field.horizontal_speed = (refl, omega arith)
at_place field.vertical_speed = (refl, omega arith)
at_place field.uncertainty_speed = (refl, omega arith)
at_place field.confidence = (refl, omega arith)

pub place-one : (f g : Field) → place_of f ≡ place_of g → f ≡ g
place-one f g e = sym (at_place f).0 ∙ ap (λ (n : ℕ). get_or all n field.confidence) e ∙ (at_place g).0

pub past-places : {n : ℕ} (f : Field) → 14 ≤ n → place_of f ≡ n → ⊥
past-places f h e = omega (arith, (at_place f).1)
