-- Below 2^23 the number itself, from there 2^24 less: both are numbers of 32 bits.
use Prim.Native.Nat.{ℕ, ◌<◌}
use mathlib.Core.Path.{◌∙◌, ap}
use native.Mathlib.Omega.{arith}
use borrow.Author.Tests.{lt-ltb, le-ltb}
use lib.IntN.{pos, negsuc, ◌-ℤ◌}
use mir.Syntax.{w32}
use mir.Val.{SFits, to_z}
use mir.ValLaws.{to_z_pos, to_z-of_z}
use Rattle.octets.specs.Codes.{from_complement}
use Rattle.octets.proofs.from_complement.Goals as goal

negative : (v : ℕ) → v < 16777216 → SFits w32 (to_z w32 v -ℤ pos 16777216)
negative v h = rw (to_z_pos w32 v (omega arith), lt-ltb v 16777216 h) (record { sfits = omega arith })

pub returns-then-v-lt8388608 : goal.returns-then-v-lt8388608
unfolding from_complement
returns-then-v-lt8388608 c =
    let v = c.args.v in
    rw (to_z_pos w32 v (omega arith), lt-ltb v 8388608 (omega arith))

pub returns : goal.returns
unfolding from_complement
returns c =
    let v = c.args.v in
    to_z-of_z w32 _ (negative v c.requires) ∙ rw (to_z_pos w32 v (omega arith), lt-ltb v 16777216 c.requires, le-ltb v 8388608 (omega arith)) (ap negsuc (omega arith))
