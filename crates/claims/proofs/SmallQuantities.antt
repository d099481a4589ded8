-- WHAT IS REPORTED IS SMALL: a quantity that a field reports, and the zero of what a type doesn't use, is one that its element's
-- width holds.
use Rattle.std.specs.Prelude.{Some, None}
use Prim.Native.Nat.{ℕ, ◌*◌, ◌≤◌, ◌<◌}
use mathlib.Core.Path.{◌≡◌, sym, subst}
use mathlib.Core.Bool.{Bool, true, false}
use mathlib.Core.List.{List}
use native.Mathlib.Omega.{arith}
use native.Mathlib.Nat.{lt_of_le_of_lt}
use lib.IntN.{ℤ}
use lib.Signed.{mag}
use Rattle.ground.specs.Answers.{done}
use Rattle.ground.specs.Signs.{signed}
use Rattle.ground.specs.Sets.{GreatestCovered}
use Rattle.radii.specs.Covering.{Covers}
use Rattle.radii.specs.Tables.{whole_part}
use Rattle.radii.proofs.CoverLaws.{covers_up}
use Rattle.radii.proofs.TableLaws.{is-greatest}
use Rattle.fields.specs.Fields.{Field, CodeOf, QuantityOf, Reporting}
use Rattle.fields.specs.Fields as field
use Rattle.fields.proofs.Column.{column}
use Rattle.layout.specs.Layout.{Row}
use Rattle.quantities.specs.Places.{Place, field_of, row_of, PlaceCodes, PlaceQuantities, zero_quantity}
use Rattle.quantities.specs.Promises.{EachReported}
use Rattle.quantities.proofs.UnusedLaws.{by-use}

-- 32 bits, with a sign for an altitude and a vertical speed; any coordinate has its 64
abbrev pub Small : (f : Field) → QuantityOf f → Type 0
Small field.latitude x = Unit {0}
Small field.longitude x = Unit {0}
Small field.uncertainty x = x.0 < 4294967296
Small field.altitude_uncertainty x = x.0 < 4294967296
Small field.altitude x = mag x.0 < 2147483648
Small field.inner_radius x = x.0 < 4294967296
Small field.offset x = x.0 < 4294967296
Small field.included x = x.0 < 4294967296
Small field.orientation x = x.0 < 4294967296
Small field.bearing x = x.0 < 4294967296
Small field.horizontal_speed x = x.0 < 4294967296
Small field.vertical_speed x = mag x.0 < 2147483648
Small field.uncertainty_speed (Some s) = s.0 < 4294967296
Small field.uncertainty_speed None = Unit {0}
Small field.confidence (Some p) = p.0 < 4294967296
Small field.confidence None = Unit {0}

-- no code covers more than the last
module _ (scale num den : ℕ) (some : 0 < den) (g : den ≤ num) (most : whole_part scale num den 127 < 4294967296) where
  covered-small : {K R : ℕ} → GreatestCovered (Covers scale num den) 127 K R → R < 4294967296
  covered-small {K} {R} p = lt_of_le_of_lt ((is-greatest scale num den some 127 (omega arith)).greatest R (covers_up g 127 p.code p.covered)) most

signed-small : (s : Bool) (n : ℕ) {z : ℤ} → z ≡ signed s n → n < 2147483648 → mag z < 2147483648
signed-small false n e h = subst (λ (z : ℤ). mag z < 2147483648) (sym e) h
signed-small true n e h = subst (λ (z : ℤ). mag z < 2147483648) (sym e) (omega arith)

pub reported-small : (f : Field) (c : CodeOf f) (x : QuantityOf f) → Reporting f c (done x) → Small f x
reported-small field.latitude c x p = tt
reported-small field.longitude c x p = tt
reported-small field.uncertainty c x p = covered-small 10000 11 10 (omega arith) (omega arith) (omega arith) p
reported-small field.altitude_uncertainty c x p = covered-small 45000 41 40 (omega arith) (omega arith) (omega arith) p
reported-small field.altitude c x p = signed-small c.0 (1000 * c.1) (column field.altitude c x p) (omega (arith, p.member.size.code))
reported-small field.inner_radius c x p = omega (arith, column field.inner_radius c x p, p.member.code)
reported-small field.offset c x p = omega (arith, p.member.below, p.member.code)
reported-small field.included c x p = omega (arith, p.member.upto, p.member.code)
reported-small field.orientation c x p = omega (arith, p.member.below, p.member.code)
reported-small field.bearing c x p = omega (arith, p.member.below, p.member.code)
reported-small field.horizontal_speed c x p = omega (arith, p.speed, p.code)
reported-small field.vertical_speed c x p = signed-small c.0 (1000 * c.1) p.speed (omega (arith, p.code))
reported-small field.uncertainty_speed c (Some s) p = omega (arith, p.covered.within, p.code)
reported-small field.uncertainty_speed c None p = tt
reported-small field.confidence c (Some n) p = omega (arith, p.most)
reported-small field.confidence c None p = tt

zero-small : (f : Field) → Small f (zero_quantity f)
zero-small field.latitude = tt
zero-small field.longitude = tt
zero-small field.uncertainty = omega arith
zero-small field.altitude_uncertainty = omega arith
zero-small field.altitude = omega arith
zero-small field.inner_radius = omega arith
zero-small field.offset = omega arith
zero-small field.included = omega arith
zero-small field.orientation = omega arith
zero-small field.bearing = omega arith
zero-small field.horizontal_speed = omega arith
zero-small field.vertical_speed = omega arith
zero-small field.uncertainty_speed = omega arith
zero-small field.confidence = tt

-- so every quantity of a record that is reported is small
pub each-small : (rows : List Row) (code : PlaceCodes) (quantity : PlaceQuantities) → EachReported rows code quantity → (p : Place) → Small (field_of p) (quantity p)
each-small rows code quantity reported p =
    by-use rows (row_of p) (Small (field_of p) (quantity p))
    (λ u. reported-small (field_of p) (code p) (quantity p) (reported.used p u))
    (λ e. subst (Small (field_of p)) (sym (reported.unused p e)) (zero-small (field_of p)))
