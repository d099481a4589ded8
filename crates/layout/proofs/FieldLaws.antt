-- A field is told by its tag.
use Prim.Native.Nat.{ℕ, zero, suc, ◌+◌, ◌-◌, ◌*◌, ◌/◌, ◌%◌, ◌<◌}
use mathlib.Core.Path.{◌≡◌, refl, ap, sym, ◌∙◌}
use mathlib.Core.List.{List, [], ◌∷◌}
use native.Mathlib.Omega.{arith}
use lib.ListN.{get_or, get_or-eq_default}
use Rattle.layout.specs.Layout.{MessageField}
use Rattle.layout.specs.Layout as layout
use Rattle.layout.specs.Rows.{tag}

-- the field of a position with remainder r, of the point i
of-point : ℕ → ℕ → MessageField
of-point zero i = layout.south i
of-point (suc zero) i = layout.latitude i
of-point (suc (suc r)) i = layout.longitude i

after-19 : (n : ℕ) → MessageField
after-19 n = of-point (n % 3) (n / 3)

others : List MessageField
others =
    layout.type_number ∷ layout.count ∷ layout.depth ∷ layout.altitude ∷ layout.uncertainty ∷ layout.semi_major ∷ layout.semi_minor ∷ layout.orientation ∷ layout.altitude_uncertainty ∷ layout.confidence ∷ layout.inner_radius ∷ layout.offset ∷ layout.included ∷ layout.bearing ∷ layout.horizontal_speed ∷ layout.down ∷ layout.vertical_speed ∷ layout.speed_uncertainty ∷ layout.vertical_uncertainty ∷ []

untag : ℕ → MessageField
untag n = get_or others n (after-19 (n - 19))

point-back : (r i : ℕ) (f : MessageField) → r < 3 → of-point r i ≡ f → untag (3 * i + (r + 19)) ≡ f
unfolding untag after-19 others
point-back r i f h e =
    let n : 3 * i + (r + 19) - 19 ≡ 3 * i + r = omega arith in
    let m : (3 * i + r) % 3 ≡ r = omega arith in
    let d : (3 * i + r) / 3 ≡ i = omega arith in
    get_or-eq_default others _ {n = 3 * i + (r + 19)} (omega arith) ∙ rw (n, m, d) e

tag_back : (f : MessageField) → untag (tag f) ≡ f
unfolding untag others of-point
tag_back layout.type_number = refl
tag_back layout.count = refl
tag_back layout.depth = refl
tag_back layout.altitude = refl
tag_back layout.uncertainty = refl
tag_back layout.semi_major = refl
tag_back layout.semi_minor = refl
tag_back layout.orientation = refl
tag_back layout.altitude_uncertainty = refl
tag_back layout.confidence = refl
tag_back layout.inner_radius = refl
tag_back layout.offset = refl
tag_back layout.included = refl
tag_back layout.bearing = refl
tag_back layout.horizontal_speed = refl
tag_back layout.down = refl
tag_back layout.vertical_speed = refl
tag_back layout.speed_uncertainty = refl
tag_back layout.vertical_uncertainty = refl
tag_back (layout.south i) = point-back 0 i (layout.south i) (omega arith) refl
tag_back (layout.latitude i) = point-back 1 i (layout.latitude i) (omega arith) refl
tag_back (layout.longitude i) = point-back 2 i (layout.longitude i) (omega arith) refl

pub tag_one : (f g : MessageField) → tag f ≡ tag g → f ≡ g
tag_one f g e = sym (tag_back f) ∙ ap untag e ∙ tag_back g
