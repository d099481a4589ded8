-- The octets of each velocity's message, in their order, where its numbers are in their fields: two that hold the type, D
-- and the bearing, two of the horizontal speed, and one for each of the others.
use Prim.Native.Nat.{ℕ, suc, ◌+◌, ◌*◌, ◌<◌}
use mathlib.Core.Path.{◌≡◌, ap, ◌∙◌}
use mathlib.Core.List.{List, [], ◌∷◌, ◌++◌}
use native.Mathlib.Omega.{arith}
use Rattle.octets.specs.Bits.{octets}
use Rattle.octets.proofs.OctetLaws.{octets-one, octets-two}
use Rattle.layout.specs.declared.velocity.VelocityKind.TheVariants.{Horizontal, HorizontalVertical, HorizontalUncertain, HorizontalVerticalUncertain}
use Rattle.layout.specs.Layout.{MessageField, velocity_rows}
use Rattle.layout.specs.Layout as layout
use Rattle.layout.specs.Rows.{message}

-- one octet after octets that are known
one_more : (n a v : ℕ) (l : List ℕ) → octets n a ≡ l → v < 256 → octets (suc n) (a * 256 + v) ≡ l ++ (v ∷ [])
one_more n a v l e h = octets-one n a v h ∙ ap (λ (k : List ℕ). k ++ (v ∷ [])) e

module _ (value : MessageField → ℕ) (fast : value layout.horizontal_speed < 65536) (first : ℕ) where
  abbrev front : List ℕ
  front = octets 2 first ++ octets 2 (value layout.horizontal_speed)

  four : (n : ℕ) → n ≡ first → octets 4 (n * 65536 + value layout.horizontal_speed) ≡ front
  four n e = rw e (octets-two 2 first (value layout.horizontal_speed) fast)

  pub horizontal-message : first ≡ 4096 * value layout.type_number + value layout.bearing → message (velocity_rows Horizontal) value ≡ front
  horizontal-message e = four ((0 + value layout.type_number) * 4096 + value layout.bearing) (omega arith)

  pub uncertain-message : first ≡ 4096 * value layout.type_number + value layout.bearing → value layout.speed_uncertainty < 256
      → message (velocity_rows HorizontalUncertain) value ≡ front ++ (value layout.speed_uncertainty ∷ [])
  uncertain-message e u = one_more 4 _ (value layout.speed_uncertainty) front (horizontal-message e) u

  -- D before the bearing
  module _ (e : first ≡ 4096 * value layout.type_number + 512 * value layout.down + value layout.bearing) (v : value layout.vertical_speed < 256) where
    pub vertical-message : message (velocity_rows HorizontalVertical) value ≡ front ++ (value layout.vertical_speed ∷ [])
    vertical-message = one_more 4 _ (value layout.vertical_speed) front (four (((0 + value layout.type_number) * 8 + value layout.down) * 512 + value layout.bearing) (omega arith)) v

    pub all-message : value layout.speed_uncertainty < 256 → value layout.vertical_uncertainty < 256
        → message (velocity_rows HorizontalVerticalUncertain) value ≡ front ++ (value layout.vertical_speed ∷ value layout.speed_uncertainty ∷ value layout.vertical_uncertainty ∷ [])
    all-message u w = one_more 6 _ (value layout.vertical_uncertainty) _ (one_more 5 _ (value layout.speed_uncertainty) _ vertical-message u) w
