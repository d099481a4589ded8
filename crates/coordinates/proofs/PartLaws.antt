-- A ℤ as two natural numbers, what it is above zero and what it is below, so that `omega` reads orders of ℤ: a ≤ b is up a + down b ≤ up b + down a.
--
use mathlib.Core.Path.{◌≡◌, refl, sym, ◌∙◌}
use mathlib.Core.Bool.{Bool, true, false, cond}
use Prim.Native.Nat.{ℕ, zero, suc, ◌+◌, ◌*◌, ◌-◌, ◌≤◌, ◌<◌}
use native.Mathlib.Nat.{zero-mul}
use native.Mathlib.Omega.{arith}
use lib.Dec.{ltb, leb→le, ltb→lt, le→leb, lt→ltb}
use lib.IntN.{ℤ, pos, negsuc, neg_ℤ, sub_ℕ, ◌+ℤ◌, ◌*ℤ◌}
use lib.Signed.{◌≤ℤ◌, ◌<ℤ◌}
use Rattle.coordinates.specs.Halves.{up, down}
use borrow.Author.Tests.{ltb-true, ltb-false}

sub_by : (t : Bool) (a b : ℕ) → ltb a b ≡ t → up (cond t (negsuc (b - suc a)) (pos (a - b))) + b ≡ down (cond t (negsuc (b - suc a)) (pos (a - b))) + a
sub_by true a b e = omega (arith, ltb-true a b e)
sub_by false a b e = omega (arith, ltb-false a b e)

pub sub_parts : (a b : ℕ) → up (sub_ℕ a b) + b ≡ down (sub_ℕ a b) + a
sub_parts a b = sub_by (ltb a b) a b refl

pub add_parts : (a b : ℤ) → up (a +ℤ b) + (down a + down b) ≡ down (a +ℤ b) + (up a + up b)
add_parts (pos a) (pos b) = omega arith
add_parts (pos a) (negsuc b) = omega (arith, sub_parts a (suc b))
add_parts (negsuc a) (pos b) = omega (arith, sub_parts b (suc a))
add_parts (negsuc a) (negsuc b) = omega arith

neg-parts : (n : ℕ) → (up (neg_ℤ (pos n)) ≡ 0) × (down (neg_ℤ (pos n)) ≡ n)
neg-parts zero = (refl, refl)
neg-parts (suc n) = (refl, refl)

pub mul-parts : (z : ℤ) (k : ℕ) → (up (z *ℤ pos k) ≡ up z * k) × (down (z *ℤ pos k) ≡ down z * k)
mul-parts (pos n) k = (refl, sym (zero-mul k))
mul-parts (negsuc n) k = ((neg-parts (suc n * k)).0 ∙ sym (zero-mul k), (neg-parts (suc n * k)).1)

pub le_parts : (a b : ℤ) → a ≤ℤ b → up a + down b ≤ up b + down a
le_parts (pos a) (pos b) h = omega (arith, leb→le a b h.le)
le_parts (pos a) (negsuc b) h = absurd h.le
le_parts (negsuc a) (pos b) h = omega arith
le_parts (negsuc a) (negsuc b) h = omega (arith, leb→le b a h.le)

pub parts-le : (a b : ℤ) → up a + down b ≤ up b + down a → a ≤ℤ b
parts-le (pos a) (pos b) h = record { le = le→leb a b (omega arith) }
parts-le (pos a) (negsuc b) h = absurd (omega arith)
parts-le (negsuc a) (pos b) h = record { le = tt }
parts-le (negsuc a) (negsuc b) h = record { le = le→leb b a (omega arith) }

pub lt-parts : (a b : ℤ) → a <ℤ b → up a + down b < up b + down a
lt-parts (pos a) (pos b) h = omega (arith, ltb→lt a b h.lt)
lt-parts (pos a) (negsuc b) h = absurd h.lt
lt-parts (negsuc a) (pos b) h = omega arith
lt-parts (negsuc a) (negsuc b) h = omega (arith, ltb→lt b a h.lt)

pub parts-lt : (a b : ℤ) → up a + down b < up b + down a → a <ℤ b
parts-lt (pos a) (pos b) h = record { lt = lt→ltb a b (omega arith) }
parts-lt (pos a) (negsuc b) h = absurd (omega arith)
parts-lt (negsuc a) (pos b) h = record { lt = tt }
parts-lt (negsuc a) (negsuc b) h = record { lt = lt→ltb b a (omega arith) }
