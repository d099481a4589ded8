-- The quantity worked out for a code is the one that reporting promises.
use Rattle.std.specs.Prelude.{Some, None}
use mathlib.Core.Path.{◌≡◌, refl}
use mathlib.Core.Bool.{Bool, true, false, cond}
use Prim.Native.Nat.{◌+◌, ◌-◌, ◌*◌, ◌/◌, ◌<◌}
use native.Mathlib.Omega.{arith}
use lib.Dec.{eqb}
use lib.IntN.{ℤ, pos, negsuc}
use lib.Signed.{mag}
use borrow.Author.Tests.{eqb-true, eqb-false}
use Rattle.ground.specs.Answers.{done}
use Rattle.ground.specs.Sets.{LowestOf}
use Rattle.ground.specs.declared.code.UncertaintySpeedCode.{UncertaintySpeedCode}
use Rattle.ground.specs.declared.code.ConfidenceCode.{ConfidenceCode}
use Rattle.ground.proofs.AnswerLaws.{said-one}
use Rattle.ground.proofs.SetLaws.{nearest-signed}
use Rattle.coordinates.specs.Halves.{up, down}
use Rattle.coordinates.specs.Longitude.{LongitudeSet}
use Rattle.coordinates.proofs.PartLaws.{sub_parts}
use Rattle.coordinates.proofs.LatitudeLaws.{least_size, one-first}
use Rattle.coordinates.proofs.LongitudeLaws.{reported}
use Rattle.radii.proofs.TableLaws.{is-greatest}
use Rattle.speeds.specs.Speeds.{UncertaintySpeedReporting}
use Rattle.confidences.specs.Confidences.{ConfidenceSet}
use Rattle.fields.specs.Fields.{Field, CodeOf, QuantityOf, Reporting}
use Rattle.fields.specs.Fields as field
use Rattle.fields.specs.Quantities.{latitude_size, longitude_quantity, quantity_of, Held}
use Rattle.fields.proofs.OneAnswer.{reporting-one}

turns : (N : ℤ) → mag N < 8388608 → (up N + 8388608 - down N < 16777216) × (up N + 8388608 - down N + down N ≡ up N + 8388608)
turns (pos n) h = (omega arith, omega arith)
turns (negsuc n) h = (omega arith, omega arith)

longitude-lowest : (N : ℤ) → mag N < 8388608 → LowestOf (LongitudeSet N) (longitude_quantity N)
longitude-lowest N h =
    let m = up N + 8388608 - down N in
    let t = turns N h in
    reported N (longitude_quantity N) m ((m * 360000000000 + 16777215) / 16777216) h t.0 t.1 refl (sub_parts ((m * 360000000000 + 16777215) / 16777216) 180000000000)

speed-by : (c : UncertaintySpeedCode) → c.0 < 256 → (b : Bool) → eqb c.0 255 ≡ b → UncertaintySpeedReporting c (cond b None (Some (record { 0 = 1000 * c.0 })))
speed-by c h true e = eqb-true c.0 255 e
speed-by c h false e =
    let n : c.0 ≡ 255 → ⊥ = eqb-false c.0 255 e in
    record { code = omega arith; covered = record { within = omega arith }; greatest = λ s p. p.within }

confidence-by : (c : ConfidenceCode) → c.0 < 101 → (b : Bool) → eqb c.0 0 ≡ b → ConfidenceSet c (cond b None (Some (record { 0 = c.0 })))
confidence-by c h true e = eqb-true c.0 0 e
confidence-by c h false e =
    let n : c.0 ≡ 0 → ⊥ = eqb-false c.0 0 e in
    record { itself = refl; least = omega arith; most = omega arith }

pub quantity-reported : (f : Field) (c : CodeOf f) → Held f c → Reporting f c (done (quantity_of f c))
unfolding quantity_of
quantity-reported field.latitude c h = nearest-signed c.0 (latitude_size c.1) (least_size c.1 h) (one-first c.1 (latitude_size c.1) refl)
quantity-reported field.longitude c h = longitude-lowest c.0 h
quantity-reported field.uncertainty c h = is-greatest 10000 11 10 (omega arith) c.0 h
quantity-reported field.altitude_uncertainty c h = is-greatest 45000 41 40 (omega arith) c.0 h
quantity-reported field.altitude c h =
    nearest-signed c.0 (1000 * c.1) (record { member = record { code = omega arith; from = omega arith; below = λ l. omega arith }; least = λ y p. p.from }) (λ z. record { code = omega arith; from = omega arith; below = λ l. omega arith })
quantity-reported field.inner_radius c h = record { member = record { code = omega arith; from = omega arith; below = λ l. omega arith }; least = λ y p. p.from }
quantity-reported field.offset c h = record { member = record { code = omega arith; from = omega arith; below = omega arith }; least = λ y p. p.from }
quantity-reported field.included c h = record { member = record { code = omega arith; above = omega arith; upto = omega arith }; greatest = λ y p. p.upto }
quantity-reported field.orientation c h = record { member = record { code = omega arith; from = omega arith; below = omega arith }; least = λ y p. p.from }
quantity-reported field.bearing c h = record { member = record { code = omega arith; from = omega arith; below = omega arith }; least = λ y p. p.from }
quantity-reported field.horizontal_speed c h = record { code = omega arith; speed = refl }
quantity-reported field.vertical_speed c h = record { code = omega arith; speed = refl }
quantity-reported field.uncertainty_speed c h = speed-by c h (eqb c.0 255) refl
quantity-reported field.confidence c h = confidence-by c h (eqb c.0 0) refl

-- so what is reported of a code that its field holds is that quantity
pub quantity-is : (f : Field) (c : CodeOf f) (x : QuantityOf f) → Held f c → Reporting f c (done x) → x ≡ quantity_of f c
quantity-is f c x h p = said-one (reporting-one f c (done x) (done (quantity_of f c)) p (quantity-reported f c h))
