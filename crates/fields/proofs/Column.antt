-- What a report promises is what document 01's column "Quantity reported" says.
use Rattle.std.specs.Prelude.{Some, None}
use mathlib.Core.Path.{◌≡◌, ap, sym, subst, ◌∙◌}
use mathlib.Core.Bool.{true}
use Prim.Native.Nat.{ℕ, ◌+◌, ◌*◌}
use native.Mathlib.Nat.{le_antisymm}
use native.Mathlib.Omega.{arith}
use lib.IntN.{ℤ, pos, negsuc}
use Rattle.ground.specs.Answers.{done}
use Rattle.ground.specs.Sets.{LowestOf, GreatestCovered}
use Rattle.ground.specs.Signs.{signed}
use Rattle.ground.specs.declared.code.LatitudeCode.{LatitudeCode}
use Rattle.ground.specs.declared.quantity.Nanodegrees.{Nanodegrees}
use Rattle.ground.specs.declared.quantity.Millidegrees.{Millidegrees}
use Rattle.ground.specs.declared.quantity.Millimetres.{Millimetres}
use Rattle.ground.specs.declared.quantity.SignedMillimetres.{SignedMillimetres}
use Rattle.coordinates.specs.Longitude.{LongitudeSet}
use Rattle.fields.specs.Fields.{Field, CodeOf, QuantityOf, Reporting}
use Rattle.fields.specs.Fields as field
use Rattle.fields.specs.Reported.{WholePart, Column}
use Rattle.fields.specs.Quantities.{latitude_size, quantity_of}
use Rattle.fields.proofs.QuantityLaws.{quantity-is}

-- ---- coordinates

south_zero : (c : LatitudeCode) (x : Nanodegrees) → Reporting field.latitude c (done x) → c.0 ≡ true → c.1 ≡ 0 → x.0 ≡ negsuc 0
unfolding quantity_of
south_zero c x p e z =
    ap (λ (q : Nanodegrees). q.0) (quantity-is field.latitude c x p.member.size.bits p) ∙ (λ i. signed (e i) (latitude_size (z i)))

-- -180 degrees are in every set that +180 are in
never-half : (N x : ℤ) → LowestOf (LongitudeSet N) x → x ≡ pos 180000000000 → ⊥
never-half N x p e =
    let q = subst (LowestOf (LongitudeSet N)) e p in
    (q.lowest (negsuc 179999999999) (record { bits = q.member.bits; step = q.member.step })).le

-- ---- covering

whole_part_lem : {covers : ℕ → ℕ → Type 0} {last K R : ℕ} → GreatestCovered covers last K R → WholePart covers K R
whole_part_lem {covers} {last} {K} {R} p = record { covered = p.covered; below = λ q. omega (arith, p.greatest (R + 1) q) }

pub column : (f : Field) (c : CodeOf f) (x : QuantityOf f) → Reporting f c (done x) → Column f c x
unfolding quantity_of
column field.latitude c x p = record { nearest = p; south_zero = south_zero c x p }
column field.longitude c x p = record { lowest = p; never = never-half c.0 x.0 p }
column field.uncertainty c x p = whole_part_lem p
column field.altitude_uncertainty c x p = whole_part_lem p
column field.altitude c x p = ap (λ (q : SignedMillimetres). q.0) (quantity-is field.altitude c x (omega (arith, p.member.size.code)) p)
column field.inner_radius c x p = ap (λ (q : Millimetres). q.0) (quantity-is field.inner_radius c x (omega (arith, p.member.code)) p)
column field.offset c x p = ap (λ (q : Millidegrees). q.0) (quantity-is field.offset c x (omega (arith, p.member.code)) p)
column field.included c x p = ap (λ (q : Millidegrees). q.0) (quantity-is field.included c x (omega (arith, p.member.code)) p)
column field.orientation c x p = ap (λ (q : Millidegrees). q.0) (quantity-is field.orientation c x (omega (arith, p.member.code)) p)
column field.bearing c x p = ap (λ (q : Millidegrees). q.0) (quantity-is field.bearing c x (omega (arith, p.member.code)) p)
column field.horizontal_speed c x p = p.speed
column field.vertical_speed c x p = p.speed
column field.uncertainty_speed c (Some s) p = (p.code, le_antisymm p.covered.within (p.greatest (1000 * c.0) (record { within = omega arith })))
column field.uncertainty_speed c None p = p
column field.confidence c (Some n) p = (omega (arith, p.itself, p.least), omega (arith, p.itself, p.most), sym p.itself)
column field.confidence c None p = p
