-- Longitude steps in natural numbers, where omega reads them; what the reporter computes is in the set.
use mathlib.Core.Path.{◌≡◌, refl, ap}
use mathlib.Core.Bool.{Bool, true, false, cond}
use mathlib.Core.Logic.{◌⊎◌, inl, inr, ⊎_elim}
use Prim.Native.Nat.{ℕ, ◌+◌, ◌*◌, ◌/◌, ◌^◌, ◌≤◌, ◌<◌}
use native.Mathlib.Nat.{add-mul, one-mul}
use native.Mathlib.Omega.{arith}
use lib.Dec.{eqb}
use lib.IntN.{ℤ, pos, negsuc, ◌+ℤ◌, ◌*ℤ◌}
use lib.Signed.{mag}
use borrow.Author.Tests.{eqb-true}
use Rattle.ground.specs.Sets.{LowestOf}
use Rattle.coordinates.specs.Halves.{up, down, Less}
use Rattle.coordinates.specs.Longitude.{TurnStep, meridian, LongitudeSet}
use Rattle.coordinates.proofs.PartLaws.{add_parts, mul-parts, le_parts, parts-le, lt-parts, parts-lt}

-- ---- a step's two orders in natural numbers, for every width and unit

pub record Linear (turn steps : ℕ) (N y : ℤ) : Type 0 where
  pub from : up N * turn + down y * steps ≤ up y * steps + down N * turn
  pub below : up y * steps + down N * turn < up N * turn + turn + down y * steps

module _ (w degree : ℕ) (N y : ℤ) where
  next-parts : up ((N +ℤ pos 1) *ℤ pos (360 * degree)) + down N * (360 * degree) ≡ down ((N +ℤ pos 1) *ℤ pos (360 * degree)) + (up N * (360 * degree) + 360 * degree)
  next-parts =
      let t = 360 * degree in
      let m = mul-parts (N +ℤ pos 1) t in
      let e = ap (λ (k : ℕ). k * t) (add_parts N (pos 1)) in
      omega (arith, e, add-mul (up (N +ℤ pos 1)) (down N + 0) t, add-mul (down (N +ℤ pos 1)) (up N + 1) t, add-mul (down N) 0 t, add-mul (up N) 1 t, one-mul t)

  pub linear→step : Linear (360 * degree) (2 ^ w) N y → TurnStep w degree N y
  linear→step l =
      let a = mul-parts N (360 * degree) in
      let b = mul-parts y (2 ^ w) in
      let e = next-parts in
      record {
        from = parts-le (N *ℤ pos (360 * degree)) (y *ℤ pos (2 ^ w)) (omega arith);
        below = parts-lt (y *ℤ pos (2 ^ w)) ((N +ℤ pos 1) *ℤ pos (360 * degree)) (omega arith);
      }

  pub step→linear : TurnStep w degree N y → Linear (360 * degree) (2 ^ w) N y
  step→linear s =
      let a = mul-parts N (360 * degree) in
      let b = mul-parts y (2 ^ w) in
      let e = next-parts in
      record {
        from = omega (arith, le_parts (N *ℤ pos (360 * degree)) (y *ℤ pos (2 ^ w)) s.from);
        below = omega (arith, lt-parts (y *ℤ pos (2 ^ w)) ((N +ℤ pos 1) *ℤ pos (360 * degree)) s.below);
      }

-- ---- the report: m is N + 2^23, and u, the least at or above m's start, is x + 180 degrees

meridian-by : (t : Bool) (n : ℕ) → eqb n 180000000000 ≡ t → n < 180000000000 → cond t (negsuc 179999999999) (pos n) ≡ pos n
meridian-by true n t h = absurd (omega (arith, eqb-true n 180000000000 t))
meridian-by false n t h = refl

meridian-same : (x : ℤ) → up x < 180000000000 → meridian x ≡ x
meridian-same (pos n) h = meridian-by (eqb n 180000000000) n refl h
meridian-same (negsuc n) h = refl

low_by : (t : Bool) (n : ℕ) → up (cond t (negsuc 179999999999) (pos n)) ≤ n + down (cond t (negsuc 179999999999) (pos n))
low_by true n = omega arith
low_by false n = omega arith

-- +180 degrees only moves down
meridian-low : (y : ℤ) → up (meridian y) + down y ≤ up y + down (meridian y)
meridian-low (pos n) = omega (arith, low_by (eqb n 180000000000) n)
meridian-low (negsuc n) = omega arith

pub one-part : (x : ℤ) → (up x ≡ 0) ⊎ (down x ≡ 0)
one-part (pos n) = inr refl
one-part (negsuc n) = inl refl

pub reported : (N x : ℤ) (m u : ℕ) → mag N < 8388608 → m < 16777216 → m + down N ≡ up N + 8388608 → u ≡ (m * 360000000000 + 16777215) / 16777216 → Less x u 180000000000 → LowestOf (LongitudeSet N) x
reported N x m u b k e q p =
    let low : up x < 180000000000 = ⊎_elim (λ z. omega arith) (λ z. omega arith) (one-part x) in
    record {
      member = record { bits = b; step = rw (meridian-same x low) (linear→step 24 1000000000 N x (record { from = omega arith; below = omega arith })) };
      lowest = λ y s. parts-le x y (omega (arith, step→linear 24 1000000000 N (meridian y) s.step, meridian-low y));
    }
