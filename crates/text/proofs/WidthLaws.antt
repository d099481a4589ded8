-- A numeral has at most one number, and there is one answer at each width.
use Rattle.std.proofs.Common.{◌≡◌, ℕ, zero, suc, ◌-◌, true, false, T, ℤ, pos, negsuc, neg_ℤ, sym, refl, ap, ◌∙◌, subst, arith, Option, Some, None}
use lib.Signed.{mag}
use Rattle.ground.specs.declared.signs.Parts.{Parts}
use Rattle.text.specs.Widths.{signed_value, Means, AsSigned64, AsSigned32, AsUnsigned32, IsBelow, AsSize}
use Rattle.text.specs.declared.widths.Size.{Size}
use Rattle.text.specs.declared.widths.Size.TheVariants as size

-- a sign and a size
minus_is : (k : ℕ) → (k ≡ 0 → ⊥) → neg_ℤ (pos k) ≡ negsuc (k - 1)
minus_is zero z = absurd (z refl)
minus_is (suc k) z = let q : k ≡ suc k - 1 = omega arith in ap negsuc q

-- a numeral below zero
module _ {n : Option Parts} {p : Parts} (e : n ≡ Some p) where
  pub means-minus : p.negative ≡ true → (p.size ≡ 0 → ⊥) → Means n (negsuc (p.size - 1))
  means-minus s z = record { parts = p; number = e; value = rw s (minus_is p.size z) }

  pub is_below : p.negative ≡ true → (p.size ≡ 0 → ⊥) → IsBelow n
  is_below s z = record { less = p.size - 1; means = means-minus s z }

pub means-one : {n : Option Parts} {x y : ℤ} → Means n x → Means n y → x ≡ y
means-one a b =
    let p = a.number in
    let q = b.number in
    let r : a.parts ≡ b.parts = cc in
    sym a.value ∙ ap signed_value r ∙ b.value

pub no_number : {n : Option Parts} {x : ℤ} → n ≡ None → Means n x → ⊥
no_number e m =
    let q = m.number in
    let r : true ≡ false = cc in
    subst T r tt

-- one answer
pub signed-64-one : (n : Option Parts) (r t : Option ℤ) → AsSigned64 n r → AsSigned64 n t → r ≡ t
signed-64-one n (Some x) (Some y) a b = ap Some (means-one a.0 b.0)
signed-64-one n (Some x) None a b = absurd (b x a.0 a.1)
signed-64-one n None (Some y) a b = absurd (a y b.0 b.1)
signed-64-one n None None a b = refl

pub signed-32-one : (n : Option Parts) (r t : Option ℤ) → AsSigned32 n r → AsSigned32 n t → r ≡ t
signed-32-one n (Some x) (Some y) a b = ap Some (means-one a.0 b.0)
signed-32-one n (Some x) None a b = absurd (b x a.0 a.1)
signed-32-one n None (Some y) a b = absurd (a y b.0 b.1)
signed-32-one n None None a b = refl

pub unsigned-32-one : (n : Option Parts) (r t : Option ℕ) → AsUnsigned32 n r → AsUnsigned32 n t → r ≡ t
unsigned-32-one n (Some x) (Some y) a b = ap Some (ap mag (means-one a.0 b.0))
unsigned-32-one n (Some x) None a b = absurd (b x a.0 a.1)
unsigned-32-one n None (Some y) a b = absurd (a y b.0 b.1)
unsigned-32-one n None None a b = refl

pub not-below : {x k : ℕ} → pos x ≡ negsuc k → ⊥
not-below e = let r : true ≡ false = cc in subst T r tt

pub size-one : (n : Option Parts) (r t : Size) → AsSize n r → AsSize n t → r ≡ t
size-one n (size.Code x) (size.Code y) a b = ap size.Code (ap mag (means-one a b))
size-one n (size.Code x) size.Below a b = absurd (not-below (means-one a b.means))
size-one n (size.Code x) size.Nothing a b = absurd (no_number b a)
size-one n size.Below (size.Code y) a b = absurd (not-below (means-one b a.means))
size-one n size.Below size.Below a b = refl
size-one n size.Below size.Nothing a b = absurd (no_number b a.means)
size-one n size.Nothing (size.Code y) a b = absurd (no_number a b)
size-one n size.Nothing size.Below a b = absurd (no_number a b.means)
size-one n size.Nothing size.Nothing a b = refl
