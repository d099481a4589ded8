-- Each quantity is in the step of one code, whatever the unit and the number of codes.
use mathlib.Core.Path.{◌≡◌}
use Prim.Native.Nat.{ℕ, ◌+◌, ◌-◌, ◌*◌, ◌≤◌, ◌<◌}
use native.Mathlib.Nat.{mul-le-mul_left, mul-le-mul_right, le_antisymm}
use native.Mathlib.Omega.{arith}
use Rattle.ground.specs.Steps.{Step, OpenStep, UpperStep, SpeedStep}
use Rattle.coordinates.specs.Latitude.{LatitudeStep}

-- a code whose step starts at or below a is not above one whose step ends after a
not-above : (unit N M a : ℕ) → unit * N ≤ a → (M < N → a < unit * (M + 1)) → N ≤ M
not-above unit N M a p q =
    let u : M < N → ⊥ = λ l. omega (arith, q l, mul-le-mul_left {m = M + 1} {n = N} unit (omega arith)) in
    omega arith

pub step-one : (unit last N M a : ℕ) → Step unit last N a → Step unit last M a → N ≡ M
step-one unit last N M a p q = le_antisymm (not-above unit N M a p.from (λ l. q.below)) (not-above unit M N a q.from (λ l. p.below))

pub open-one : (unit last N M a : ℕ) → OpenStep unit last N a → OpenStep unit last M a → N ≡ M
open-one unit last N M a p q =
    le_antisymm (not-above unit N M a p.from (λ l. q.below (omega arith))) (not-above unit M N a q.from (λ l. p.below (omega arith)))

pub upper-one : (unit last N M a : ℕ) → UpperStep unit last N a → UpperStep unit last M a → N ≡ M
upper-one unit last N M a p q =
    le_antisymm (not-above unit N M (a - 1) (omega arith) (λ l. omega arith)) (not-above unit M N (a - 1) (omega arith) (λ l. omega arith))

pub speed-one : (last N M h : ℕ) → SpeedStep last N h → SpeedStep last M h → N ≡ M
speed-one last N M h p q =
    le_antisymm
    (not-above 1000 N M (h + 500) p.from (λ l. omega (arith, q.below (omega arith))))
    (not-above 1000 M N (h + 500) q.from (λ l. omega (arith, p.below (omega arith))))

latitude-under : (w degree N M a : ℕ) → LatitudeStep w degree N a → LatitudeStep w degree M a → N < M → ⊥
latitude-under w degree N M a p q l =
    let m : (N + 1) * (90 * degree) ≤ M * (90 * degree) = mul-le-mul_right (90 * degree) (omega arith) in
    omega (arith, p.below (omega (arith, q.bits)), q.from)

pub latitude-one : (w degree N M a : ℕ) → LatitudeStep w degree N a → LatitudeStep w degree M a → N ≡ M
latitude-one w degree N M a p q =
    let u : N < M → ⊥ = latitude-under w degree N M a p q in
    let v : M < N → ⊥ = latitude-under w degree M N a q p in
    omega arith
