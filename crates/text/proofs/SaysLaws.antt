-- A field says one thing, and what the code reads from it is what it says.
use Rattle.std.specs.Prelude.{Option, Some, None}
use Rattle.std.proofs.Common.{◌≡◌, ℕ, ◌^◌, ◌<◌, List, ℤ, pos, refl, ap, subst}
use lib.Signed.{mag}
use Rattle.ground.specs.declared.signs.Parts.{Parts}
use Rattle.text.specs.Numerals.{numeral_of, digits_of}
use Rattle.text.specs.Widths.{Means, FitsSigned, AsSigned64, AsSigned32, AsUnsigned32}
use Rattle.text.specs.LineFields.{IsAbsent, SaysSigned, SaysUnsigned, SaysConfidence}
use Rattle.text.proofs.WidthLaws.{means-one, no_number}
use Rattle.ground.specs.declared.quantity.PerCent.{PerCent}

-- ---- a field says one thing

-- a dash is no number
pub dash-is-none : {f : List ℕ} {z : ℤ} → IsAbsent f → Means (numeral_of f) z → ⊥
unfolding numeral_of digits_of
dash-is-none {f} {z} e m = no_number refl (subst (λ (s : List ℕ). Means (numeral_of s) z) e m)

pub signed-one : {b : ℕ} {f : List ℕ} {x y : ℤ} → SaysSigned b f x → SaysSigned b f y → x ≡ y
signed-one s t = means-one s.means t.means

pub unsigned-one : {f : List ℕ} {x y : ℕ} → SaysUnsigned f x → SaysUnsigned f y → x ≡ y
unsigned-one s t = ap mag (means-one s.means t.means)

pub unsigned-dash : {f : List ℕ} {x : ℕ} → SaysUnsigned f x → IsAbsent f → ⊥
unsigned-dash s e = dash-is-none e s.means

-- ---- a field that was read

pub confidence-one : (f : List ℕ) (a b : Option PerCent) → SaysConfidence f a → SaysConfidence f b → a ≡ b
confidence-one f (Some m) (Some n) s t = ap (λ (k : ℕ). Some (record { 0 = k })) (unsigned-one s t)
confidence-one f (Some m) None s t = absurd (unsigned-dash s t)
confidence-one f None (Some n) s t = absurd (unsigned-dash t s)
confidence-one f None None s t = refl

module _ {n : Option Parts} (f : List ℕ) (e : n ≡ numeral_of f) where
  pub unsigned-says : {r : Option ℕ} {x : ℕ} → r ≡ Some x → AsUnsigned32 n r → SaysUnsigned f x
  unsigned-says g a = let b = subst (λ (t : Option ℕ). AsUnsigned32 n t) g a in record { means = rw e at b.0; fits = b.1 }

  pub unsigned-none : {r : Option ℕ} → r ≡ None → AsUnsigned32 n r → (x : ℕ) → Means (numeral_of f) (pos x) → x < 2 ^ 32 → ⊥
  unsigned-none g a x m h = subst (λ (t : Option ℕ). AsUnsigned32 n t) g a x (rw (← e) at m) h

  pub signed-says : {r : Option ℤ} {z : ℤ} → r ≡ Some z → AsSigned32 n r → SaysSigned 32 f z
  signed-says g a = let b = subst (λ (t : Option ℤ). AsSigned32 n t) g a in record { means = rw e at b.0; fits = b.1 }

  pub signed-none : {r : Option ℤ} → r ≡ None → AsSigned32 n r → (z : ℤ) → Means (numeral_of f) z → FitsSigned 32 z → ⊥
  signed-none g a z m h = subst (λ (t : Option ℤ). AsSigned32 n t) g a z (rw (← e) at m) h

pub unsigned-unread : {f : List ℕ} → ((x : ℕ) → Means (numeral_of f) (pos x) → x < 2 ^ 32 → ⊥) → (x : ℕ) → SaysUnsigned f x → ⊥
unsigned-unread n x s = n x s.means s.fits

module _ (f : List ℕ) {r : Option ℤ} (a : AsSigned64 (numeral_of f) r) where
  pub coordinate-says : {z : ℤ} → r ≡ Some z → SaysSigned 64 f z
  coordinate-says g = let b = subst (λ (t : Option ℤ). AsSigned64 (numeral_of f) t) g a in record { means = b.0; fits = b.1 }

  pub no-coordinate : r ≡ None → {z : ℤ} → SaysSigned 64 f z → ⊥
  no-coordinate g {z} s = subst (λ (t : Option ℤ). AsSigned64 (numeral_of f) t) g a z s.means s.fits
