-- The verbs are apart, and a name is one field's.
use mathlib.Core.Path.{◌≡◌, refl, sym, ap, ◌∙◌}
use mathlib.Core.Bool.{cond}
use mathlib.Core.List.{List, [], ◌∷◌}
use Prim.Native.Nat.{ℕ, ◌+◌, ◌*◌}
use native.Mathlib.Omega.{arith}
use lib.ListN.{length, get_or}
use lib.Dec.{eqb}
use Rattle.fields.specs.Fields.{Field}
use Rattle.fields.specs.Fields as field
use Rattle.fields.proofs.PlaceLaws.{all}
use Rattle.coder.specs.Names.{code_verb, report_verb, name_of}

-- ---- the verbs

pub verbs-apart : code_verb ≡ report_verb → ⊥
unfolding code_verb report_verb
verbs-apart e = omega (arith, ap length e)

-- ---- one field has a name

-- length and first letter tell it
unfoldable key_of : List ℕ → ℕ
key_of word = 256 * length word + get_or word 0 0

unfoldable with_key : ℕ → List Field → Field
with_key k [] = field.confidence
with_key k (f ∷ fs) = cond (eqb (key_of (name_of f)) k) f (with_key k fs)

by_key : (f : Field) → with_key (key_of (name_of f)) all ≡ f
unfolding name_of key_of with_key
by_key field.latitude = refl
by_key field.longitude = refl
by_key field.uncertainty = refl
by_key field.altitude_uncertainty = refl
by_key field.altitude = refl
by_key field.inner_radius = refl
by_key field.offset = refl
by_key field.included = refl
by_key field.orientation = refl
by_key field.bearing = refl
by_key field.horizontal_speed = refl
by_key field.vertical_speed = refl
by_key field.uncertainty_speed = refl
by_key field.confidence = refl

pub name-one : (f g : Field) → name_of f ≡ name_of g → f ≡ g
name-one f g e = sym (by_key f) ∙ ap (λ (w : List ℕ). with_key (key_of w) all) e ∙ by_key g
