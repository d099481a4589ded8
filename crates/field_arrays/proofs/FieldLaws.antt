-- A quantity in an element is of its field's width or of none, and a code's elements say one code or none.
use Rattle.std.specs.Prelude.{Result}
use mathlib.Core.Path.{◌≡◌, refl, sym}
use mathlib.Core.List.{List}
use Prim.Native.Nat.{ℕ, ◌≤◌}
use lib.IntN.{ℤ, pos, negsuc, nat_abs}
use lib.Dec.{T}
use lib.ListN.{length}
use lib.Signed.{non_neg}
use mir.Syntax.{w32, w64}
use mir.Val.{Fits, SFits, to_z, of_z}
use mir.Facts.{to_z-of_z}
use Rattle.ground.specs.declared.refusals.Refusal.{Refusal}
use Rattle.ground.specs.declared.said.SaidCode.{SaidCode}
use Rattle.ground.specs.declared.said.SaidQuantity.{SaidQuantity}
use Rattle.one_field.specs.declared.coding.Unsigned.{Unsigned}
use Rattle.one_field.specs.declared.coding.Unsigned.TheVariants as unsigned
use Rattle.one_field.specs.Coding.{TellsUnsigned}
use Rattle.one_field.specs.declared.reporting.Byte.{Byte}
use Rattle.one_field.specs.declared.reporting.Byte.TheVariants as byte
use Rattle.one_field.specs.declared.reporting.Word.{Word}
use Rattle.one_field.specs.declared.reporting.Word.TheVariants as word
use Rattle.one_field.specs.declared.reporting.Signed.{Signed}
use Rattle.one_field.specs.declared.reporting.Signed.TheVariants as signed
use Rattle.one_field.specs.Reporting.{TellsByte, TellsWord, TellsSigned}
use Rattle.octets.specs.Codes.{sign_of}
use Rattle.code_arrays.specs.CodeNumbers.{element_at}
use Rattle.field_arrays.specs.Fields.{IsNatural, IsSigned, coded, CodesNatural, reported, ReportsByte, ReportsWord, ReportsSigned}

-- ---- a quantity in an element

pub natural-at : (z : ℤ) → SFits w64 z → T (non_neg (to_z w64 (of_z w64 z))) → Fits w32 (nat_abs (to_z w64 (of_z w64 z))) → IsNatural z (nat_abs (to_z w64 (of_z w64 z)))
natural-at z f t h =
    let p : to_z w64 (of_z w64 z) ≡ z = to_z-of_z f in
    rw p (by z (rw p at t) (rw p at h))
  where
    by : (z : ℤ) → T (non_neg z) → Fits w32 (nat_abs z) → IsNatural z (nat_abs z)
    by (pos n) t h = record { number = refl; fits = h.fits }
    by (negsuc n) t h = absurd t

pub signed-at : (z : ℤ) → SFits w64 z → SFits w32 (to_z w64 (of_z w64 z)) → IsSigned z (to_z w32 (of_z w32 (to_z w64 (of_z w64 z))))
signed-at z f h =
    let p : to_z w64 (of_z w64 z) ≡ z = to_z-of_z f in
    let g : SFits w32 z = rw p at h in
    rw p (record { number = sym (to_z-of_z g); fits = g.sfits })

pub natural-given : (f : Unsigned) (z : ℤ) (n : ℕ) (r : Result SaidCode Refusal) → IsNatural z n → TellsUnsigned f n r → CodesNatural f z r
natural-given unsigned.Uncertainty z n r i t = coded i t
natural-given unsigned.AltitudeUncertainty z n r i t = coded i t
natural-given unsigned.InnerRadius z n r i t = coded i t
natural-given unsigned.Offset z n r i t = coded i t
natural-given unsigned.Included z n r i t = coded i t
natural-given unsigned.Orientation z n r i t = coded i t
natural-given unsigned.Bearing z n r i t = coded i t
natural-given unsigned.HorizontalSpeed z n r i t = coded i t
natural-given unsigned.UncertaintySpeed z n r i t = λ m. coded i t
natural-given unsigned.Confidence z n r i t = λ m. coded i t

-- ---- a code's elements

pub byte-said : (f : Byte) (elements : List ℕ) (r : Result SaidQuantity Refusal) → 1 ≤ length elements → TellsByte f (element_at elements 0) r → ReportsByte f elements r
byte-said byte.Uncertainty elements r h t = reported (record { one = h; number = refl }) t
byte-said byte.AltitudeUncertainty elements r h t = reported (record { one = h; number = refl }) t
byte-said byte.Offset elements r h t = reported (record { one = h; number = refl }) t
byte-said byte.Included elements r h t = reported (record { one = h; number = refl }) t
byte-said byte.Orientation elements r h t = reported (record { one = h; number = refl }) t
byte-said byte.UncertaintySpeed elements r h t = reported (record { one = h; number = refl }) t
byte-said byte.Confidence elements r h t = reported (record { one = h; number = refl }) t

pub word-said : (f : Word) (elements : List ℕ) (r : Result SaidQuantity Refusal) → 1 ≤ length elements → TellsWord f (element_at elements 0) r → ReportsWord f elements r
word-said word.InnerRadius elements r h t = reported (record { one = h; number = refl }) t
word-said word.Bearing elements r h t = reported (record { one = h; number = refl }) t
word-said word.HorizontalSpeed elements r h t = reported (record { one = h; number = refl }) t

pub signed-said : (f : Signed) (elements : List ℕ) (r : Result SaidQuantity Refusal) → 2 ≤ length elements → element_at elements 0 ≤ 1 → TellsSigned f (sign_of (element_at elements 0)) (element_at elements 1) r → ReportsSigned f elements r
signed-said signed.Latitude elements r h b t = reported (record { both = h; bit = b; sign = refl; number = refl }) t
signed-said signed.Altitude elements r h b t = reported (record { both = h; bit = b; sign = refl; number = refl }) t
signed-said signed.VerticalSpeed elements r h b t = reported (record { both = h; bit = b; sign = refl; number = refl }) t
