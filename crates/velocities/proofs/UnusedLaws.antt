-- A record's codes are in their fields just where those that its kind has no field for are zero: the others' types are their
-- fields, but for the bearing's, which is demanded before.
use Prim.Native.Nat.{◌^◌, ◌<◌}
use mathlib.Core.Path.{◌≡◌, refl, ap, subst}
use mathlib.Core.Bool.{Bool, true, false}
use mathlib.Core.List.{List}
use native.Mathlib.Omega.{arith}
use lib.Pow.{pow_pos}
use Rattle.octets.specs.Codes.{bit_of}
use Rattle.layout.specs.declared.velocity.VelocityKind.{VelocityKind}
use Rattle.layout.specs.declared.velocity.VelocityKind.TheVariants.{Nothing, Horizontal, HorizontalVertical, HorizontalUncertain, HorizontalVerticalUncertain}
use Rattle.layout.specs.declared.velocity.Velocity.{Velocity}
use Rattle.layout.specs.Layout.{MessageField, Row, velocity_rows, velocity_type_of}
use Rattle.layout.specs.Layout as layout
use Rattle.layout.specs.Rows.{width_of}
use Rattle.layout.specs.Demands.{TypeKnown, InFields}
use Rattle.layout.specs.Velocities.{velocity_value_of}
use Rattle.velocity_octets.proofs.SizeLaws.{bit-lt, type-lt}
use Rattle.velocities.specs.Writing.{AreZero}

-- ---- what a record's codes are

pub unlisted : (k : VelocityKind) → k ≡ Nothing → TypeKnown (velocity_rows k) → ⊥
unlisted k e l = let z : 0 < 0 = subst (λ (j : VelocityKind). TypeKnown (velocity_rows j)) e l in absurd (omega arith)

-- what the codes' types hold
pub record Typed (x : Velocity) : Type 0 where
  pub speeds : x.horizontal_speed.0 < 65536
  pub verticals : x.vertical_speed.1 < 256
  pub uncertainties : x.uncertainty.0 < 256
  pub vertical_uncertainties : x.vertical_uncertainty.0 < 256

bit-zero : (b : Bool) → bit_of b < 1 → b ≡ false
bit-zero true h = absurd (omega arith)
bit-zero false h = refl

-- by the fields that some velocity has; every other number is zero
module _ (x : Velocity) (rows : List Row)
    (t : velocity_type_of x.kind < 2 ^ width_of rows layout.type_number) (b : x.bearing.0 < 2 ^ width_of rows layout.bearing)
    (s : x.horizontal_speed.0 < 2 ^ width_of rows layout.horizontal_speed) (d : bit_of x.vertical_speed.0 < 2 ^ width_of rows layout.down)
    (v : x.vertical_speed.1 < 2 ^ width_of rows layout.vertical_speed) (u : x.uncertainty.0 < 2 ^ width_of rows layout.speed_uncertainty)
    (w : x.vertical_uncertainty.0 < 2 ^ width_of rows layout.vertical_uncertainty) where
  one : (f : MessageField) → velocity_value_of x f < 2 ^ width_of rows f
  one layout.type_number = t
  one layout.bearing = b
  one layout.horizontal_speed = s
  one layout.down = d
  one layout.vertical_speed = v
  one layout.speed_uncertainty = u
  one layout.vertical_uncertainty = w
  one layout.count = pow_pos _
  one (layout.south i) = pow_pos _
  one (layout.latitude i) = pow_pos _
  one (layout.longitude i) = pow_pos _
  one layout.depth = pow_pos _
  one layout.altitude = pow_pos _
  one layout.uncertainty = pow_pos _
  one layout.semi_major = pow_pos _
  one layout.semi_minor = pow_pos _
  one layout.orientation = pow_pos _
  one layout.altitude_uncertainty = pow_pos _
  one layout.confidence = pow_pos _
  one layout.inner_radius = pow_pos _
  one layout.offset = pow_pos _
  one layout.included = pow_pos _

  in-fields : InFields rows (velocity_value_of x)
  in-fields = record { each = one }

module _ (x : Velocity) where
  abbrev In : VelocityKind → Type 0
  In k = InFields (velocity_rows k) (velocity_value_of x)

  module _ (typed : Typed x) (turn : x.bearing.0 < 360) where
    type-in : velocity_type_of x.kind < 16
    type-in = type-lt x.kind

    pub horizontal-in : AreZero x.vertical_speed.0 x.vertical_speed.1 x.uncertainty.0 x.vertical_uncertainty.0 → In Horizontal
    horizontal-in z =
        in-fields x _ type-in (omega arith) typed.speeds (omega (arith, ap bit_of z.downs)) (omega arith) (omega arith) (omega arith)

    pub vertical-in : AreZero false 0 x.uncertainty.0 x.vertical_uncertainty.0 → In HorizontalVertical
    vertical-in z = in-fields x _ type-in (omega arith) typed.speeds (bit-lt x.vertical_speed.0) typed.verticals (omega arith) (omega arith)

    pub uncertain-in : AreZero x.vertical_speed.0 x.vertical_speed.1 0 x.vertical_uncertainty.0 → In HorizontalUncertain
    uncertain-in z =
        in-fields x _ type-in (omega arith) typed.speeds (omega (arith, ap bit_of z.downs)) (omega arith) typed.uncertainties (omega arith)

    pub all_in : In HorizontalVerticalUncertain
    all_in = in-fields x _ type-in (omega arith) typed.speeds (bit-lt x.vertical_speed.0) typed.verticals typed.uncertainties typed.vertical_uncertainties

  pub horizontal-zero : In Horizontal → AreZero x.vertical_speed.0 x.vertical_speed.1 x.uncertainty.0 x.vertical_uncertainty.0
  horizontal-zero h = record {
    downs = bit-zero _ (h.each layout.down);
    verticals = omega (arith, h.each layout.vertical_speed);
    uncertainties = omega (arith, h.each layout.speed_uncertainty);
    vertical_uncertainties = omega (arith, h.each layout.vertical_uncertainty);
  }

  pub vertical-zero : In HorizontalVertical → AreZero false 0 x.uncertainty.0 x.vertical_uncertainty.0
  vertical-zero h = record {
    downs = refl;
    verticals = refl;
    uncertainties = omega (arith, h.each layout.speed_uncertainty);
    vertical_uncertainties = omega (arith, h.each layout.vertical_uncertainty);
  }

  pub uncertain-zero : In HorizontalUncertain → AreZero x.vertical_speed.0 x.vertical_speed.1 0 x.vertical_uncertainty.0
  uncertain-zero h = record {
    downs = bit-zero _ (h.each layout.down);
    verticals = omega (arith, h.each layout.vertical_speed);
    uncertainties = refl;
    vertical_uncertainties = omega (arith, h.each layout.vertical_uncertainty);
  }
