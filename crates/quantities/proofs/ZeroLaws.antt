-- Zero is reported as zero and coded as zero, in every field but the included angle's, where 0 has no code; and a quantity that has a code
-- is not refused.
use Prim.Native.Nat.{ℕ, zero, suc, ◌<◌}
use mathlib.Core.Path.{◌≡◌, refl, sym, subst}
use mathlib.Core.Bool.{Bool, true, false}
use native.Mathlib.Omega.{arith}
use lib.Dec.{T}
use Rattle.ground.specs.Answers.{Said, done, refused}
use Rattle.ground.proofs.AnswerLaws.{said-one, done-not-refused}
use Rattle.fields.specs.Fields.{Field, CodeOf, QuantityOf, Coding, Reporting}
use Rattle.fields.specs.Fields as field
use Rattle.fields.proofs.OneAnswer.{coding-one, reporting-one}
use Rattle.fields.proofs.Kept.{own-set}
use Rattle.fields.proofs.QuantityLaws.{quantity-reported}
use Rattle.fields.specs.Quantities.{quantity_of}
use Rattle.quantities.specs.Places.{zero_code, zero_quantity}

abbrev pub has_zero : Field → Bool
has_zero field.latitude = true
has_zero field.longitude = true
has_zero field.uncertainty = true
has_zero field.altitude_uncertainty = true
has_zero field.altitude = true
has_zero field.inner_radius = true
has_zero field.offset = true
has_zero field.included = false
has_zero field.orientation = true
has_zero field.bearing = true
has_zero field.horizontal_speed = true
has_zero field.vertical_speed = true
has_zero field.uncertainty_speed = true
has_zero field.confidence = true

pub zero-reported : (f : Field) → has_zero f ≡ true → Reporting f (zero_code f) (done (zero_quantity f))
unfolding quantity_of
zero-reported field.latitude e = quantity-reported field.latitude (zero_code field.latitude) (omega arith)
zero-reported field.longitude e = quantity-reported field.longitude (zero_code field.longitude) (omega arith)
zero-reported field.uncertainty e = quantity-reported field.uncertainty (zero_code field.uncertainty) (omega arith)
zero-reported field.altitude_uncertainty e = quantity-reported field.altitude_uncertainty (zero_code field.altitude_uncertainty) (omega arith)
zero-reported field.altitude e = quantity-reported field.altitude (zero_code field.altitude) (omega arith)
zero-reported field.inner_radius e = quantity-reported field.inner_radius (zero_code field.inner_radius) (omega arith)
zero-reported field.offset e = quantity-reported field.offset (zero_code field.offset) (omega arith)
zero-reported field.included e = absurd (subst T (sym e) tt)
zero-reported field.orientation e = quantity-reported field.orientation (zero_code field.orientation) (omega arith)
zero-reported field.bearing e = quantity-reported field.bearing (zero_code field.bearing) (omega arith)
zero-reported field.horizontal_speed e = quantity-reported field.horizontal_speed (zero_code field.horizontal_speed) (omega arith)
zero-reported field.vertical_speed e = quantity-reported field.vertical_speed (zero_code field.vertical_speed) (omega arith)
zero-reported field.uncertainty_speed e = quantity-reported field.uncertainty_speed (zero_code field.uncertainty_speed) (omega arith)
zero-reported field.confidence e = quantity-reported field.confidence (zero_code field.confidence) (omega arith)

-- so a code that is zero reports zero, and a quantity that is zero codes zero
pub reports-zero : (f : Field) (c : CodeOf f) (x : QuantityOf f) → has_zero f ≡ true → c ≡ zero_code f → Reporting f c (done x) → x ≡ zero_quantity f
reports-zero f c x h e p = said-one (reporting-one f c (done x) (done (zero_quantity f)) p (rw e (zero-reported f h)))

pub zero-coded : (f : Field) → has_zero f ≡ true → Coding f (zero_quantity f) (done (zero_code f))
zero-coded f h = own-set f (zero_code f) (zero_quantity f) (zero-reported f h)

pub codes-zero : (f : Field) (x : QuantityOf f) (a : Said (CodeOf f)) → has_zero f ≡ true → x ≡ zero_quantity f → Coding f x a → a ≡ done (zero_code f)
codes-zero f x a h e p = coding-one f x a (done (zero_code f)) p (rw e (zero-coded f h))

-- ---- refusals

pub not-refused : (f : Field) (x : QuantityOf f) (c : CodeOf f) (n : ℕ) → Coding f x (done c) → Coding f x (refused n) → ⊥
not-refused f x c n p q = done-not-refused (coding-one f x (done c) (refused n) p q)

module _ (f : Field) (has : has_zero f ≡ true) where
  module _ (x : QuantityOf f) where
    pub zero-has-code : x ≡ zero_quantity f → (c : CodeOf f) → Coding f x (done c) → c ≡ zero_code f
    zero-has-code e c p = let d = codes-zero f x (done c) has e p in cc

    -- a quantity whose place has w bits: it is zero where it has none
    pub kept : (n w : ℕ) → (0 < w → Coding f x (refused n) → ⊥) → (w ≡ 0 → x ≡ zero_quantity f) → Coding f x (refused n) → ⊥
    kept n zero used unused p = let d = codes-zero f x (refused n) has (unused refl) p in let z : ◌≡◌ {A = ℕ} 0 1 = cc in omega arith
    kept n (suc w) used unused p = used (omega arith) p
