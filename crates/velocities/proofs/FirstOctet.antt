-- The kind that a first octet says.
use Prim.Native.Nat.{ℕ, ◌/◌}
use mathlib.Core.Path.{◌≡◌, ap, ◌∙◌}
use mathlib.Core.List.{List}
use Rattle.octets.specs.Bits.{bits}
use Rattle.octets.proofs.BitLaws.{bits-high}
use Rattle.layout.specs.declared.velocity.VelocityKind.{VelocityKind}
use Rattle.layout.specs.Velocities.{velocity_kind_of, velocity_kind_in}

module _ (s : List ℕ) (first : ℕ) (e : first ≡ bits s 0 8) where
  pub kind-in : (k : VelocityKind) → k ≡ velocity_kind_of (first / 16) → k ≡ velocity_kind_in s
  kind-in k f = f ∙ ap (λ (o : ℕ). velocity_kind_of (o / 16)) e ∙ ap velocity_kind_of (bits-high s 0 4 4)
