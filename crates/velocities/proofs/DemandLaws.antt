-- What is demanded of a velocity's numbers: of its codes the bearing's alone.
use Prim.Native.Nat.{ℕ, ◌<◌}
use native.Mathlib.Omega.{arith}
use Rattle.layout.specs.declared.velocity.VelocityKind.{VelocityKind}
use Rattle.layout.specs.declared.velocity.VelocityKind.TheVariants.{Nothing, Horizontal, HorizontalVertical, HorizontalUncertain, HorizontalVerticalUncertain}
use Rattle.layout.specs.Layout.{MessageField, bearing, velocity_rows}
use Rattle.layout.specs.Demands.{TypeKnown, CountSound, AnglesSound, ConfidenceSound}

-- a field that is not used
no : {P : Type 0} → 0 < 0 → P
no h = absurd (omega arith)

module _ (value : MessageField → ℕ) where
  pub no-count : (k : VelocityKind) → CountSound (velocity_rows k) value
  no-count Nothing = record { least = no; most = no }
  no-count Horizontal = record { least = no; most = no }
  no-count HorizontalVertical = record { least = no; most = no }
  no-count HorizontalUncertain = record { least = no; most = no }
  no-count HorizontalVerticalUncertain = record { least = no; most = no }

  pub no-confidence : (k : VelocityKind) → ConfidenceSound (velocity_rows k) value
  no-confidence Nothing = record { confidences = no }
  no-confidence Horizontal = record { confidences = no }
  no-confidence HorizontalVertical = record { confidences = no }
  no-confidence HorizontalUncertain = record { confidences = no }
  no-confidence HorizontalVerticalUncertain = record { confidences = no }

  pub sound-bearing : (k : VelocityKind) → value bearing < 360 → AnglesSound (velocity_rows k) value
  sound-bearing Nothing h = record { orientations = no; offsets = no; includeds = no; bearings = no }
  sound-bearing Horizontal h = record { orientations = no; offsets = no; includeds = no; bearings = λ u. h }
  sound-bearing HorizontalVertical h = record { orientations = no; offsets = no; includeds = no; bearings = λ u. h }
  sound-bearing HorizontalUncertain h = record { orientations = no; offsets = no; includeds = no; bearings = λ u. h }
  sound-bearing HorizontalVerticalUncertain h = record { orientations = no; offsets = no; includeds = no; bearings = λ u. h }

  pub bearing-sound : (k : VelocityKind) → TypeKnown (velocity_rows k) → AnglesSound (velocity_rows k) value → value bearing < 360
  bearing-sound Nothing l a = absurd (omega arith)
  bearing-sound Horizontal l a = a.bearings (omega arith)
  bearing-sound HorizontalVertical l a = a.bearings (omega arith)
  bearing-sound HorizontalUncertain l a = a.bearings (omega arith)
  bearing-sound HorizontalVerticalUncertain l a = a.bearings (omega arith)
