-- Each longitude within 180 degrees is in the set of one code, and a code's lowest longitude is one.
use mathlib.Core.Path.{◌≡◌, refl, ap}
use mathlib.Core.Bool.{Bool, true, false, cond}
use mathlib.Core.Logic.{⊎_elim}
use Prim.Native.Nat.{ℕ, ◌+◌, ◌≤◌, ◌<◌}
use native.Mathlib.Omega.{arith}
use lib.Dec.{eqb}
use lib.IntN.{ℤ, pos, negsuc, nat_abs}
use lib.Signed.{mag}
use borrow.Author.Tests.{eqb-true}
use Rattle.ground.specs.Sets.{LowestOf}
use Rattle.coordinates.specs.Halves.{up, down}
use Rattle.coordinates.specs.Longitude.{meridian, LongitudeSet}
use Rattle.coordinates.proofs.PartLaws.{le_parts}
use Rattle.coordinates.proofs.LongitudeLaws.{step→linear, one-part}

parts-one : (a b : ℤ) → up a + down b ≡ up b + down a → a ≡ b
parts-one (pos a) (pos b) e = let q : a ≡ b = omega arith in ap pos q
parts-one (pos a) (negsuc b) e = absurd (omega arith)
parts-one (negsuc a) (pos b) e = absurd (omega arith)
parts-one (negsuc a) (negsuc b) e = let q : a ≡ b = omega arith in ap negsuc q

pub longitude-one : (N M x : ℤ) → LongitudeSet N x → LongitudeSet M x → N ≡ M
longitude-one N M x p q =
    parts-one N M (omega (arith, step→linear 24 1000000000 N (meridian x) p.step, step→linear 24 1000000000 M (meridian x) q.step))

pub lowest-one : {P : ℤ → Type 0} {x y : ℤ} → LowestOf P x → LowestOf P y → x ≡ y
lowest-one {P} {x} {y} p q =
    parts-one x y (omega (arith, le_parts x y (p.lowest y q.member), le_parts y x (q.lowest x p.member)))

-- ---- a longitude that has a code is within 180 degrees

mag-parts : (N : ℤ) → mag N < 8388608 → (up N < 8388608) × (down N ≤ 8388608)
mag-parts (pos n) h = omega arith
mag-parts (negsuc n) h = omega arith

within_by : (t : Bool) (n : ℕ) → eqb n 180000000000 ≡ t → up (cond t (negsuc 179999999999) (pos n)) < 180000000000 → n ≤ 180000000000
within_by true n t h = omega (arith, eqb-true n 180000000000 t)
within_by false n t h = omega arith

within : (x : ℤ) → up (meridian x) < 180000000000 → down (meridian x) ≤ 180000000000 → nat_abs x ≤ 180000000000
within (pos n) h k = within_by (eqb n 180000000000) n refl h
within (negsuc n) h k = k

pub in-range : (N x : ℤ) → LongitudeSet N x → nat_abs x ≤ 180000000000
in-range N x p =
    let l = step→linear 24 1000000000 N (meridian x) p.step in
    let b = mag-parts N p.bits in
    ⊎_elim (λ z. within x (omega arith) (omega arith)) (λ z. within x (omega arith) (omega arith)) (one-part (meridian x))
