-- Laws of what a line says.
use Rattle.std.specs.Prelude.{Option, Some, None, Result, Ok, Err, MatchOption, IsSomeAnd}
use mathlib.Core.Path.{◌≡◌, refl, sym, ap, ◌∙◌}
use mathlib.Core.Bool.{Bool, true, false}
use mathlib.Core.List.{List}
use Prim.Native.Nat.{ℕ, ◌<◌, ◌^◌}
use native.Mathlib.Omega.{arith}
use lib.Dec.{eqb}
use borrow.Author.Tests.{eqb-true, eqb-false}
use lib.IntN.{ℤ, pos}
use lib.Signed.{mag}
use Rattle.ground.specs.declared.signs.Parts.{Parts}
use Rattle.text.specs.Numerals.{numeral_of}
use Rattle.text.specs.Widths.{Means, FitsSigned}
use Rattle.text.specs.LineFields.{field_at, IsAbsent, SaysUnsigned, SaysConfidence}
use Rattle.text.proofs.WidthLaws.{means-one}
use Rattle.text.proofs.SaysLaws.{dash-is-none, signed-one, unsigned-one, unsigned-dash, confidence-one}
use Rattle.requests.specs.declared.Request.{Request}
use Rattle.ground.specs.declared.quantity.Millimetres.{Millimetres}
use Rattle.ground.specs.declared.quantity.SignedMillimetres.{SignedMillimetres}
use Rattle.requests.specs.declared.Horizontal.{Horizontal}
use Rattle.requests.specs.declared.Horizontal.TheVariants as horizontal
use Rattle.request_lines.specs.declared.Unreadable.{Unreadable}
use Rattle.request_lines.specs.declared.entries.Entry.{Entry}
use Rattle.request_lines.specs.declared.entries.Entry.TheVariants.{Plain, Minus, Dash, Neither}
use Rattle.request_lines.specs.Entries.{EntryHolds}
use Rattle.request_lines.specs.Asking.{ReadsList, SaysAltitude, SaysHorizontal, SaysUncertainty, Says, Asks, SaysList, ListIn}
use Rattle.request_lines.specs.Reading.{ReadsAmount, ReadsHorizontal, area_given, horizontal_of}
use Rattle.request_lines.proofs.AmountLaws as amounts
use Rattle.ground.specs.declared.quantity.PerCent.{PerCent}

-- ---- the horizontal uncertainty

pub horizontal-reads : (f g h : List ℕ) (R S a : Option ℕ) → ReadsAmount f (Ok R) → ReadsAmount g (Ok S) → ReadsAmount h (Ok a) → ReadsHorizontal f g h (area_given R S a)
horizontal-reads f g h = amounts.horizontal-reads IsAbsent SaysUnsigned f g h (λ f n. unsigned-dash)

pub no-major : (f g h : List ℕ) {u : Unreadable} → ReadsAmount f (Err u) → (a : Horizontal) → SaysHorizontal f g h a → ⊥
no-major f g h = amounts.no-major IsAbsent SaysUnsigned f g h

pub no-minor : (f g h : List ℕ) {u : Unreadable} → ReadsAmount g (Err u) → (a : Horizontal) → SaysHorizontal f g h a → ⊥
no-minor f g h = amounts.no-minor IsAbsent SaysUnsigned f g h

pub no-turn : (f g h : List ℕ) {u : Unreadable} → ReadsAmount h (Err u) → (a : Horizontal) → SaysHorizontal f g h a → ⊥
no-turn f g h = amounts.no-turn IsAbsent SaysUnsigned f g h

pub horizontal-read : (f g h : List ℕ) (r s t : Result (Option ℕ) Unreadable) → ReadsAmount f r → ReadsAmount g s → ReadsAmount h t → ReadsHorizontal f g h (horizontal_of r s t)
horizontal-read f g h (Ok R) (Ok S) (Ok a) p q m = horizontal-reads f g h R S a p q m
horizontal-read f g h (Ok R) (Ok S) (Err u) p q m = no-turn f g h m
horizontal-read f g h (Ok R) (Err u) t p q m = no-minor f g h q
horizontal-read f g h (Err u) s t p q m = no-major f g h p

-- ---- what the entry of a field leaves

number-no-dash : {f : List ℕ} {p : Parts} → numeral_of f ≡ Some p → IsAbsent f → ⊥
number-no-dash {p = p} e a = dash-is-none a (record { parts = p; number = e; value = refl })

pub no-dash : (f : List ℕ) (e : Entry) → (e ≡ Dash → ⊥) → EntryHolds f e → IsAbsent f → ⊥
no-dash f (Plain size) n h = number-no-dash h
no-dash f (Minus size) n h = number-no-dash h
no-dash f Dash n h = absurd (n refl)
no-dash f Neither n h = h.1

-- ---- the altitude, its uncertainty, the confidence

pub no-altitude : (f : List ℕ) → (IsAbsent f → ⊥) → ((z : ℤ) → Means (numeral_of f) z → FitsSigned 32 z → ⊥) → (a : Option SignedMillimetres) → SaysAltitude f a → ⊥
no-altitude f d n (Some a) s = n a.0 s.means s.fits
no-altitude f d n None s = d s

pub no-uncertainty : {f : List ℕ} {u : Unreadable} → ReadsAmount f (Err u) → (a : Option Millimetres) → SaysUncertainty f a → ⊥
no-uncertainty = amounts.no-uncertainty IsAbsent SaysUnsigned

pub no-confidence : {f : List ℕ} {u : Unreadable} → ReadsAmount f (Err u) → (a : Option PerCent) → SaysConfidence f a → ⊥
no-confidence = amounts.no-confidence IsAbsent SaysUnsigned

pub uncertainty-says : (f : List ℕ) (n : Option ℕ) (m : Option Millimetres) → MatchOption n (m ≡ None) (λ x. IsSomeAnd m (λ R. R.0 ≡ x)) → ReadsAmount f (Ok n) → SaysUncertainty f m
uncertainty-says = amounts.uncertainty-says IsAbsent SaysUnsigned

pub confidence-says : (f : List ℕ) (n : Option ℕ) (m : Option PerCent) → MatchOption n (m ≡ None) (λ x. IsSomeAnd m (λ p. p.0 ≡ x)) → ReadsAmount f (Ok n) → SaysConfidence f m
confidence-says = amounts.confidence-says IsAbsent SaysUnsigned

-- ---- the list

-- what is no number of 32 bits is none
pub list-none : {line : List ℕ} → ((x : ℕ) → Means (numeral_of line) (pos x) → x < 2 ^ 32 → ⊥) → (list : ℕ) → SaysList line list → ⊥
list-none n y s = n y s.means (omega (arith, s.fits))

-- what is read is the list, or the empty one
pub list_read : {line : List ℕ} {list : ℕ} → SaysList line list → ListIn line list
list_read {list = x} m = record { written = λ y s. ap mag (means-one m.means s.means); empty = λ none. absurd (none x m) }

pub list-empty : {line : List ℕ} → ((list : ℕ) → SaysList line list → ⊥) → ListIn line 0
list-empty n = record { written = λ y s. absurd (n y s); empty = λ none. refl }

-- ---- one answer

list-by : {line : List ℕ} {x y : ℕ} (t : Bool) → eqb x y ≡ t → ListIn line x → ListIn line y → x ≡ y
list-by {x = x} {y} true e a b = eqb-true x y e
list-by {line} {x} {y} false e a b =
    let none : (n : ℕ) → SaysList line n → ⊥ = λ n s. eqb-false x y e (a.written n s ∙ sym (b.written n s)) in
    a.empty none ∙ sym (b.empty none)

-- were there two lists, the line would write neither, and both would be empty
pub list-one : {line : List ℕ} {x y : ℕ} → ListIn line x → ListIn line y → x ≡ y
list-one {x = x} {y} a b = list-by (eqb x y) refl a b

pub reads-list-one : (line : List ℕ) (a b : Option ℕ) → ReadsList line a → ReadsList line b → a ≡ b
reads-list-one line (Some x) (Some y) s t = ap Some (ap mag (means-one s.means t.means))
reads-list-one line (Some x) None s t = absurd (t x s)
reads-list-one line None (Some y) s t = absurd (s y t)
reads-list-one line None None s t = refl

altitude-one : (f : List ℕ) (a b : Option SignedMillimetres) → SaysAltitude f a → SaysAltitude f b → a ≡ b
altitude-one f (Some a) (Some b) s t = ap (λ (z : ℤ). Some (record { 0 = z })) (signed-one s t)
altitude-one f (Some a) None s t = absurd (dash-is-none t s.means)
altitude-one f None (Some b) s t = absurd (dash-is-none s t.means)
altitude-one f None None s t = refl

horizontal-one : (f g h : List ℕ) (a b : Horizontal) → SaysHorizontal f g h a → SaysHorizontal f g h b → a ≡ b
horizontal-one f g h (horizontal.Circle R) (horizontal.Circle Q) s t = ap (λ (n : ℕ). horizontal.Circle (record { 0 = n })) (unsigned-one s.0 t.0)
horizontal-one f g h (horizontal.Circle R) (horizontal.Ellipse Q S a) s t = absurd (unsigned-dash t.1 s.1)
horizontal-one f g h (horizontal.Circle R) horizontal.NotAsked s t = absurd (unsigned-dash s.0 t.0)
horizontal-one f g h (horizontal.Ellipse R S a) (horizontal.Circle Q) s t = absurd (unsigned-dash s.1 t.1)
horizontal-one f g h (horizontal.Ellipse R S a) (horizontal.Ellipse Q P b) s t =
    λ i. horizontal.Ellipse (record { 0 = unsigned-one s.0 t.0 i }) (record { 0 = unsigned-one s.1 t.1 i }) (record { 0 = unsigned-one s.2 t.2 i })
horizontal-one f g h (horizontal.Ellipse R S a) horizontal.NotAsked s t = absurd (unsigned-dash s.0 t.0)
horizontal-one f g h horizontal.NotAsked (horizontal.Circle Q) s t = absurd (unsigned-dash t.0 s.0)
horizontal-one f g h horizontal.NotAsked (horizontal.Ellipse Q P b) s t = absurd (unsigned-dash t.0 s.0)
horizontal-one f g h horizontal.NotAsked horizontal.NotAsked s t = refl

uncertainty-one : (f : List ℕ) (a b : Option Millimetres) → SaysUncertainty f a → SaysUncertainty f b → a ≡ b
uncertainty-one f (Some R) (Some Q) s t = ap (λ (n : ℕ). Some (record { 0 = n })) (unsigned-one s t)
uncertainty-one f (Some R) None s t = absurd (unsigned-dash s t)
uncertainty-one f None (Some Q) s t = absurd (unsigned-dash t s)
uncertainty-one f None None s t = refl

says-one : {line : List ℕ} {p q : Request} → Says line p → Says line q → p ≡ q
says-one {line} {p} {q} s t =
    λ i. record {
      latitude = record { 0 = signed-one s.latitudes t.latitudes i };
      longitude = record { 0 = signed-one s.longitudes t.longitudes i };
      altitude = altitude-one (field_at line 2) p.altitude q.altitude s.altitudes t.altitudes i;
      horizontal = horizontal-one (field_at line 3) (field_at line 4) (field_at line 5) p.horizontal q.horizontal s.areas t.areas i;
      altitude_uncertainty = uncertainty-one (field_at line 6) p.altitude_uncertainty q.altitude_uncertainty s.heights t.heights i;
      confidence = confidence-one (field_at line 7) p.confidence q.confidence s.confidences t.confidences i;
    }

unreadable-one : (u v : Unreadable) → u ≡ v
unreadable-one u v = refl

-- a line asks for one thing
pub asks-one : (line : List ℕ) (a b : Result Request Unreadable) → Asks line a → Asks line b → a ≡ b
asks-one line (Ok p) (Ok q) s t = ap Ok (says-one s t)
asks-one line (Ok p) (Err v) s t = absurd (t p s)
asks-one line (Err u) (Ok q) s t = absurd (s q t)
asks-one line (Err u) (Err v) s t = ap Err (unreadable-one u v)
