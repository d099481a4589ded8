-- How large a sign's bit and a type number are.
use Prim.Native.Nat.{◌<◌}
use mathlib.Core.Bool.{Bool, true, false}
use native.Mathlib.Omega.{arith}
use Rattle.octets.specs.Codes.{bit_of}
use Rattle.layout.specs.declared.velocity.VelocityKind.{VelocityKind}
use Rattle.layout.specs.declared.velocity.VelocityKind.TheVariants.{Nothing, Horizontal, HorizontalVertical, HorizontalUncertain, HorizontalVerticalUncertain}
use Rattle.layout.specs.Layout.{velocity_type_of}

pub bit-lt : (b : Bool) → bit_of b < 2
bit-lt true = omega arith
bit-lt false = omega arith

pub type-lt : (k : VelocityKind) → velocity_type_of k < 16
type-lt Nothing = omega arith
type-lt Horizontal = omega arith
type-lt HorizontalVertical = omega arith
type-lt HorizontalUncertain = omega arith
type-lt HorizontalVerticalUncertain = omega arith
