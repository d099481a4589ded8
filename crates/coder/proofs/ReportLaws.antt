-- Texts that were read as numbers are a code of their field, or none. A number that 32 bits can't hold is outside every field, as their largest is.
use mathlib.Core.Path.{◌≡◌, refl, sym, ap, ◌∙◌, subst}
use mathlib.Core.Bool.{Bool, true, false, cond}
use mathlib.Core.List.{List, [], ◌∷◌}
use mathlib.Core.Logic.{⊎_elim}
use Prim.Native.Nat.{ℕ, zero, suc, ◌+◌, ◌-◌, ◌≤◌, ◌<◌, min}
use native.Mathlib.Omega.{arith}
use native.Mathlib.Nat.{sub-zero}
use lib.Dec.{eqb}
use lib.IntN.{ℤ, pos, negsuc}
use lib.Signed.{mag}
use lib.ListN.{length, take, drop, length-drop}
use lib.Seq.{take_all}
use Rattle.ground.specs.Answers.{refused}
use Rattle.ground.specs.declared.refusals.Refusal.{Refusal}
use Rattle.ground.specs.declared.refusals.Refusal.TheVariants.{OutOfRange}
use Rattle.std.specs.Prelude.{Option, Some, None, Result, Err}
use Rattle.ground.specs.declared.signs.Parts.{Parts}
use Rattle.ground.specs.declared.said.SaidQuantity.{SaidQuantity}
use Rattle.fields.specs.Fields.{Field, CodeOf}
use Rattle.fields.specs.Fields as field
use Rattle.one_field.specs.declared.reporting.Byte.{Byte}
use Rattle.one_field.specs.declared.reporting.Byte.TheVariants as byte
use Rattle.one_field.specs.declared.reporting.Word.{Word}
use Rattle.one_field.specs.declared.reporting.Word.TheVariants as word
use Rattle.one_field.specs.declared.reporting.Signed.{Signed}
use Rattle.one_field.specs.declared.reporting.Signed.TheVariants as signed
use Rattle.one_field.specs.Reporting.{TellsQuantity, TellsByte, TellsWord, TellsSigned, above_byte, above_word}
use Rattle.one_field.proofs.AboveLaws.{above-byte, above_word_lem}
use Rattle.one_field.proofs.OneQuantity.{tells-quantity-one}
use Rattle.text.proofs.OutputLaws.{split}
use Rattle.text.specs.Numerals.{numeral_of}
use Rattle.text.specs.Widths.{signed_value, Means, FitsSigned, IsBelow, AsSize}
use Rattle.text.specs.Marks.{FirstMark}
use Rattle.text.specs.LineFields.{fields_of}
use Rattle.text.specs.declared.widths.Size.{Size}
use Rattle.text.specs.declared.widths.Size.TheVariants as size
use Rattle.text.proofs.WidthLaws.{no_number, not-below}
use Rattle.text.proofs.LineFieldLaws.{alone, number-uncut, marked}
use Rattle.text.specs.AnswerLines.{line_of_quantity}
use Rattle.text.specs.declared.said.SaidLine.{SaidLine}
use Rattle.text.specs.declared.said.SaidLine.TheVariants.{Unreadable, Refused}
use Rattle.one_field.specs.Coding.{count_of}
use Rattle.coder.specs.Written.{WriteNumbers, none, more, signed_numbers, numbers_of}
use Rattle.coder.specs.FieldTexts.{ReportsText, reported, no_code, no_numbers, ReportsNumber, of_number, below, nothing, byte_field, word_field, signed_field}

-- ---- a number above 32 bits

-- what is said of the largest of 32 bits is said of all that are greater, where all from some smaller number on are refused alike
module _ (TellsQuantity : ℕ → Result SaidQuantity Refusal → Type 0) (one : (n : ℕ) (a b : Result SaidQuantity Refusal) → TellsQuantity n a → TellsQuantity n b → a ≡ b) (bound : ℕ) (small : bound < 4294967295) (refusal : Result SaidQuantity Refusal) (above : (n : ℕ) → bound < n → TellsQuantity n refusal) where
  uncapped : (n : ℕ) (r : Result SaidQuantity Refusal) → TellsQuantity (min n 4294967295) r → TellsQuantity n r
  uncapped n r t =
      ⊎_elim
      (λ (h : 4294967295 < n).
      let e : min n 4294967295 ≡ 4294967295 = omega arith in
      let q : refusal ≡ r = one 4294967295 refusal r (above 4294967295 small) (rw e at t) in
      rw q at (above n (omega arith)))
      (λ (h : n ≤ 4294967295). let e : min n 4294967295 ≡ n = omega arith in rw e at t)
      (split 4294967295 n)

byte_one : (k : Byte) (n : ℕ) (a b : Result SaidQuantity Refusal) → TellsByte k n a → TellsByte k n b → a ≡ b
byte_one byte.Uncertainty n = tells-quantity-one field.uncertainty (record { 0 = n })
byte_one byte.AltitudeUncertainty n = tells-quantity-one field.altitude_uncertainty (record { 0 = n })
byte_one byte.Offset n = tells-quantity-one field.offset (record { 0 = n })
byte_one byte.Included n = tells-quantity-one field.included (record { 0 = n })
byte_one byte.Orientation n = tells-quantity-one field.orientation (record { 0 = n })
byte_one byte.UncertaintySpeed n = tells-quantity-one field.uncertainty_speed (record { 0 = n })
byte_one byte.Confidence n = tells-quantity-one field.confidence (record { 0 = n })

word-one : (k : Word) (n : ℕ) (a b : Result SaidQuantity Refusal) → TellsWord k n a → TellsWord k n b → a ≡ b
word-one word.InnerRadius n = tells-quantity-one field.inner_radius (record { 0 = n })
word-one word.Bearing n = tells-quantity-one field.bearing (record { 0 = n })
word-one word.HorizontalSpeed n = tells-quantity-one field.horizontal_speed (record { 0 = n })

signed-one : (k : Signed) (s : Bool) (n : ℕ) (a b : Result SaidQuantity Refusal) → TellsSigned k s n a → TellsSigned k s n b → a ≡ b
signed-one signed.Latitude s n = tells-quantity-one field.latitude (record { 0 = s; 1 = n })
signed-one signed.Altitude s n = tells-quantity-one field.altitude (record { 0 = s; 1 = n })
signed-one signed.VerticalSpeed s n = tells-quantity-one field.vertical_speed (record { 0 = s; 1 = n })

above-signed : (k : Signed) (s : Bool) (n : ℕ) → 8388607 < n → TellsSigned k s n (Err OutOfRange)
above-signed signed.Latitude s n h = record { said = refused 7; promise = (refl, omega arith); told = refl }
above-signed signed.Altitude s n h = record { said = refused 7; promise = (refl, omega arith); told = refl }
above-signed signed.VerticalSpeed s n h = record { said = refused 7; promise = (refl, omega arith); told = refl }

byte-uncapped : (k : Byte) (n : ℕ) (r : Result SaidQuantity Refusal) → TellsByte k (min n 4294967295) r → TellsByte k n r
byte-uncapped k = uncapped (TellsByte k) (byte_one k) 255 (omega arith) (above_byte k) (above-byte k)

word-uncapped : (k : Word) (n : ℕ) (r : Result SaidQuantity Refusal) → TellsWord k (min n 4294967295) r → TellsWord k n r
word-uncapped k = uncapped (TellsWord k) (word-one k) 65535 (omega arith) (above_word k) (above_word_lem k)

signed-uncapped : (k : Signed) (s : Bool) (n : ℕ) (r : Result SaidQuantity Refusal) → TellsSigned k s (min n 4294967295) r → TellsSigned k s n r
signed-uncapped k s = uncapped (TellsSigned k s) (signed-one k s) 8388607 (omega arith) (Err OutOfRange) (above-signed k s)

-- ---- a size that was read

module _ {n : Option Parts} (f : List ℕ) (e : n ≡ numeral_of f) {r : Size} (a : AsSize n r) where
  pub size-code : {x : ℕ} → r ≡ size.Code x → Means (numeral_of f) (pos x)
  size-code g = rw e at (subst (λ (t : Size). AsSize n t) g a)

  pub size_below : r ≡ size.Below → IsBelow (numeral_of f)
  size_below g = rw e at (subst (λ (t : Size). AsSize n t) g a)

  pub size-nothing : r ≡ size.Nothing → numeral_of f ≡ None
  size-nothing g = sym e ∙ subst (λ (t : Size). AsSize n t) g a

-- ---- one number

one_number : (text : List ℕ) {z : ℤ} → Means (numeral_of text) z → WriteNumbers (fields_of text) (z ∷ [])
one_number text m = rw (number-uncut text m) (more m none)

no-number-in : {texts : List (List ℕ)} {zs : List ℤ} → WriteNumbers texts zs → length zs ≡ 1 → ((t : List ℕ) → texts ≡ t ∷ [] → numeral_of t ≡ None) → ⊥
no-number-in none l h = absurd (omega arith)
no-number-in (more {text = t} m none) l h = no_number (h t refl) m
no-number-in (more m (more n w)) l h = absurd (omega arith)

nothing-in : (text : List ℕ) → numeral_of text ≡ None → (zs : List ℤ) → WriteNumbers (fields_of text) zs → length zs ≡ 1 → ⊥
nothing-in text e zs w l = no-number-in w l (λ t q. ap numeral_of (alone text q) ∙ e)

pub nothing-reported : (f : Field) → count_of f ≡ 1 → (text : List ℕ) → numeral_of text ≡ None → ReportsText f (fields_of text) Unreadable
nothing-reported f c text e = no_numbers (λ zs w l. nothing-in text e zs w (l ∙ c)) refl

-- ---- a code of one number without a sign

pub record Plain (f : Field) : Type 0 where
  pub one : count_of f ≡ 1
  pub above : (c : CodeOf f) (n : ℕ) → numbers_of f c ≡ negsuc n ∷ [] → ⊥

not_negative : {m n : ℕ} → ◌≡◌ {A = List ℤ} (pos m ∷ []) (negsuc n ∷ []) → ⊥
not_negative {m} {n} e = let q : pos m ≡ negsuc n = cc in not-below q

pub byte-plain : (k : Byte) → Plain (byte_field k)
byte-plain byte.Uncertainty = record { one = refl; above = λ c n e. not_negative e }
byte-plain byte.AltitudeUncertainty = record { one = refl; above = λ c n e. not_negative e }
byte-plain byte.Offset = record { one = refl; above = λ c n e. not_negative e }
byte-plain byte.Included = record { one = refl; above = λ c n e. not_negative e }
byte-plain byte.Orientation = record { one = refl; above = λ c n e. not_negative e }
byte-plain byte.UncertaintySpeed = record { one = refl; above = λ c n e. not_negative e }
byte-plain byte.Confidence = record { one = refl; above = λ c n e. not_negative e }

pub word-plain : (k : Word) → Plain (word_field k)
word-plain word.InnerRadius = record { one = refl; above = λ c n e. not_negative e }
word-plain word.Bearing = record { one = refl; above = λ c n e. not_negative e }
word-plain word.HorizontalSpeed = record { one = refl; above = λ c n e. not_negative e }

pub below-reported : {f : Field} → Plain f → (text : List ℕ) → IsBelow (numeral_of text) → ReportsText f (fields_of text) (Refused 7)
below-reported p text b = no_code (one_number text b.means) (sym p.one) (λ c e. p.above c b.less e) refl

module _ (text : List ℕ) {n : ℕ} (m : Means (numeral_of text) (pos n)) (a : Result SaidQuantity Refusal) {r : SaidLine} (p : r ≡ line_of_quantity a) where
  pub byte-reported : (k : Byte) → TellsByte k (min n 4294967295) a → ReportsText (byte_field k) (fields_of text) r
  byte-reported byte.Uncertainty t = reported (one_number text m) (byte-uncapped byte.Uncertainty n a t) p
  byte-reported byte.AltitudeUncertainty t = reported (one_number text m) (byte-uncapped byte.AltitudeUncertainty n a t) p
  byte-reported byte.Offset t = reported (one_number text m) (byte-uncapped byte.Offset n a t) p
  byte-reported byte.Included t = reported (one_number text m) (byte-uncapped byte.Included n a t) p
  byte-reported byte.Orientation t = reported (one_number text m) (byte-uncapped byte.Orientation n a t) p
  byte-reported byte.UncertaintySpeed t = reported (one_number text m) (byte-uncapped byte.UncertaintySpeed n a t) p
  byte-reported byte.Confidence t = reported (one_number text m) (byte-uncapped byte.Confidence n a t) p

  pub word-reported : (k : Word) → TellsWord k (min n 4294967295) a → ReportsText (word_field k) (fields_of text) r
  word-reported word.InnerRadius t = reported (one_number text m) (word-uncapped word.InnerRadius n a t) p
  word-reported word.Bearing t = reported (one_number text m) (word-uncapped word.Bearing n a t) p
  word-reported word.HorizontalSpeed t = reported (one_number text m) (word-uncapped word.HorizontalSpeed n a t) p

-- what is said of a text that is no number is the same in all fields of one number
pub number-reported : {says : ℕ → Result SaidQuantity Refusal → Type 0} (text : List ℕ) {r : SaidLine} {f : Field} → Plain f
    → ((n : ℕ) (a : Result SaidQuantity Refusal) → Means (numeral_of text) (pos n) → says (min n 4294967295) a → r ≡ line_of_quantity a → ReportsText f (fields_of text) r)
    → ReportsNumber says text r → ReportsText f (fields_of text) r
number-reported text p told (of_number m s e) = told _ _ m s e
number-reported text p told (below b e) = rw e (below-reported p text b)
number-reported text {f = f} p told (nothing b e) = rw e (nothing-reported f p.one text b)

-- ---- a longitude

pub longitude-outside : (text : List ℕ) {p : Parts} → numeral_of text ≡ Some p → ((z : ℤ) → Means (numeral_of text) z → FitsSigned 32 z → ⊥) → ReportsText field.longitude (fields_of text) (Refused 7)
unfolding line_of_quantity
longitude-outside text {p} e h =
    let m : Means (numeral_of text) (signed_value p) = record { parts = p; number = e; value = refl } in
    let l : 2147483648 ≤ mag (signed_value p) = ⊎_elim (λ (b : mag (signed_value p) < 2147483648). absurd (h (signed_value p) m (record { fits = b }))) (λ (b : 2147483648 ≤ mag (signed_value p)). b) (split (mag (signed_value p)) 2147483648) in
    reported {c = record { 0 = signed_value p }} {said = Err OutOfRange} (one_number text m) (record { said = refused 7; promise = (refl, omega arith); told = refl }) refl

pub longitude-reported : (text : List ℕ) {z : ℤ} {a : Result SaidQuantity Refusal} {r : SaidLine} → Means (numeral_of text) z → TellsQuantity field.longitude (record { 0 = z }) a → r ≡ line_of_quantity a → ReportsText field.longitude (fields_of text) r
longitude-reported text m t p = reported (one_number text m) t p

-- ---- a code with a sign

two : (k : Signed) → count_of (signed_field k) ≡ 2
two signed.Latitude = refl
two signed.Altitude = refl
two signed.VerticalSpeed = refl

no-signed-code : (k : Signed) {y z : ℤ} → ((s : Bool) (n : ℕ) → signed_numbers s n ≡ y ∷ z ∷ [] → ⊥) → (c : CodeOf (signed_field k)) → numbers_of (signed_field k) c ≡ y ∷ z ∷ [] → ⊥
no-signed-code signed.Latitude h c e = h c.0 c.1 e
no-signed-code signed.Altitude h c e = h c.0 c.1 e
no-signed-code signed.VerticalSpeed h c e = h c.0 c.1 e

few : {texts : List (List ℕ)} {zs : List ℤ} {t : List ℕ} → texts ≡ t ∷ [] → WriteNumbers texts zs → length zs ≡ 2 → ⊥
few e none l = absurd (omega arith)
few e (more m none) l = absurd (omega arith)
few e (more m (more n w)) l = omega (arith, ap length e)

-- a text behind which nothing stands
pub one-text : (k : Signed) {texts : List (List ℕ)} {t : List ℕ} → texts ≡ t ∷ [] → ReportsText (signed_field k) texts Unreadable
one-text k e = no_numbers (λ zs w l. few e w (l ∙ two k)) refl

no_second : {first : List ℕ} (rest : List ℕ) {zs : List ℤ} → numeral_of rest ≡ None → WriteNumbers (first ∷ fields_of rest) zs → length zs ≡ 2 → ⊥
no_second rest e (more {zs = zs} m w) l = nothing-in rest e zs w (omega arith)

module _ (k : Signed) (first rest : List ℕ) where
  pub rest-nothing : numeral_of rest ≡ None → ReportsText (signed_field k) (first ∷ fields_of rest) Unreadable
  rest-nothing e = no_numbers (λ zs w l. no_second rest e w (l ∙ two k)) refl

  no_signed : {y z : ℤ} → Means (numeral_of first) y → Means (numeral_of rest) z → ((s : Bool) (n : ℕ) → signed_numbers s n ≡ y ∷ z ∷ [] → ⊥) → ReportsText (signed_field k) (first ∷ fields_of rest) (Refused 7)
  no_signed m n h = no_code (more m (one_number rest n)) (sym (two k)) (no-signed-code k h) refl

  pub first_below : {z : ℤ} → IsBelow (numeral_of first) → Means (numeral_of rest) z → ReportsText (signed_field k) (first ∷ fields_of rest) (Refused 7)
  first_below b n = no_signed b.means n (λ s n e. let q : pos (cond s 1 0) ≡ negsuc b.less = cc in not-below q)

  pub rest_below : {y : ℤ} → Means (numeral_of first) y → IsBelow (numeral_of rest) → ReportsText (signed_field k) (first ∷ fields_of rest) (Refused 7)
  rest_below m b = no_signed m b.means (λ s n e. let q : pos n ≡ negsuc b.less = cc in not-below q)

  pub no_sign : {s : ℕ} {z : ℤ} → 1 < s → Means (numeral_of first) (pos s) → Means (numeral_of rest) z → ReportsText (signed_field k) (first ∷ fields_of rest) (Refused 7)
  no_sign {s} l m n = no_signed m n (λ b n e. let q : pos (cond b 1 0) ≡ pos s = cc in above-bit b (ap mag q))
    where
      above-bit : (b : Bool) → cond b 1 0 ≡ s → ⊥
      above-bit true e = omega arith
      above-bit false e = omega arith

bit_is : (s : ℕ) → s ≤ 1 → s ≡ cond (eqb s 1) 1 0
bit_is zero l = refl
bit_is (suc zero) l = refl
bit_is (suc (suc s)) l = absurd (omega arith)

two-numbers : (first rest : List ℕ) {s n : ℕ} → s ≤ 1 → Means (numeral_of first) (pos s) → Means (numeral_of rest) (pos n) → WriteNumbers (first ∷ fields_of rest) (signed_numbers (eqb s 1) n)
two-numbers first rest {s} l m n = more (subst (λ (b : ℕ). Means (numeral_of first) (pos b)) (bit_is s l) m) (one_number rest n)

module _ (first rest : List ℕ) {s n : ℕ} (l : s ≤ 1) (m : Means (numeral_of first) (pos s)) (i : Means (numeral_of rest) (pos n)) (a : Result SaidQuantity Refusal) {r : SaidLine} (p : r ≡ line_of_quantity a) where
  pub signed-reported : (k : Signed) → TellsSigned k (eqb s 1) (min n 4294967295) a → ReportsText (signed_field k) (first ∷ fields_of rest) r
  signed-reported signed.Latitude t = reported (two-numbers first rest l m i) (signed-uncapped signed.Latitude (eqb s 1) n a t) p
  signed-reported signed.Altitude t = reported (two-numbers first rest l m i) (signed-uncapped signed.Altitude (eqb s 1) n a t) p
  signed-reported signed.VerticalSpeed t = reported (two-numbers first rest l m i) (signed-uncapped signed.VerticalSpeed (eqb s 1) n a t) p

-- ---- the first field of some, and those after it

pub first_of : {s : List ℕ} {r : ℕ} → FirstMark 32 s 0 r → r < length s → fields_of s ≡ take r s ∷ fields_of (take (length s - (r + 1)) (drop (r + 1) s))
first_of {s} {r} m h = rw (take_all (length s - (r + 1)) (drop (r + 1) s) (rw length-drop (omega arith))) (rw sub-zero at (marked m h))
