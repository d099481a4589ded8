-- A code keeps its value: the quantity reported for it, coded afresh, gives that code, and so however often it travels.
use Rattle.std.specs.Prelude.{Some, None}
use mathlib.Core.Path.{◌≡◌, refl, ap, ◌∙◌, subst⁻¹}
use Prim.Native.Nat.{ℕ, ◌+◌, ◌*◌, ◌-◌, ◌<◌}
use native.Mathlib.Omega.{arith}
use Rattle.ground.specs.Answers.{Said, done}
use Rattle.ground.specs.Sets.{OfSign}
use Rattle.ground.specs.Steps.{SpeedStep}
use Rattle.radii.specs.Covering.{Covers}
use Rattle.radii.proofs.CoverLaws.{covers_up, covers-next}
use Rattle.speeds.specs.Speeds.{SpeedCovers}
use Rattle.fields.specs.Fields.{Field, CodeOf, QuantityOf, Coding, Reporting}
use Rattle.fields.specs.Fields as field
use Rattle.fields.specs.Travels.{Travels, stays, goes}
use Rattle.fields.proofs.SetLaws.{greatest-least, own-step}
use Rattle.fields.proofs.OneAnswer.{coding-one}

-- ---- covering rises with the code: a later code covers a whole millimetre more

pub covering-rises : (scale num den : ℕ) → den < num → den < scale * (num - den) + 1 → (J K R : ℕ) → J < K → Covers scale num den J R → Covers scale num den K (R + 1)
covering-rises scale num den g w J K R l p = covers_up (omega arith) K l (covers-next (omega arith) (omega arith) p)

pub speed-covering-rises : (J K s : ℕ) → J < K → SpeedCovers J s → SpeedCovers K (s + 1)
speed-covering-rises J K s l p = record { within = omega (arith, p.within) }

-- ---- the reported quantity is in the set of its code

pub own-set : (f : Field) (c : CodeOf f) (x : QuantityOf f) → Reporting f c (done x) → Coding f x (done c)
own-set field.latitude c x p = p.member
own-set field.longitude c x p = p.member
own-set field.uncertainty c x p = greatest-least (covering-rises 10000 11 10 (omega arith) (omega arith)) p
own-set field.altitude_uncertainty c x p = greatest-least (covering-rises 45000 41 40 (omega arith) (omega arith)) p
own-set field.altitude c x p = p.member
own-set field.inner_radius c x p = p.member
own-set field.offset c x p = p.member
own-set field.included c x p = p.member
own-set field.orientation c x p = p.member
own-set field.bearing c x p = p.member
own-set field.horizontal_speed c x p = record { code = p.code; from = omega (arith, p.speed); below = λ l. omega (arith, p.speed) }
own-set field.vertical_speed c x p = subst⁻¹ (OfSign c.0 (SpeedStep 255 c.1)) p.speed (own-step c.0 c.1 p.code)
own-set field.uncertainty_speed c (Some s) p = greatest-least speed-covering-rises p
own-set field.uncertainty_speed c None p = p
own-set field.confidence c x p = p

-- ---- so it is coded as that code, and every later trip ends there too

pub kept : (f : Field) (c : CodeOf f) (x : QuantityOf f) (a : Said (CodeOf f)) → Reporting f c (done x) → Coding f x a → a ≡ done c
kept f c x a p q = coding-one f x a (done c) q (own-set f c x p)

pub however-often : (f : Field) {n : ℕ} {c : CodeOf f} {a : Said (CodeOf f)} → Travels f n c a → a ≡ done c
however-often f stays = refl
however-often f (goes {c = c} {d = d} {a = a} t x p q) =
    let e : ◌≡◌ {A = Said (CodeOf f)} (done d) (done c) = however-often f t in
    let s : d ≡ c = cc in
    kept f d x a p q ∙ ap done s
