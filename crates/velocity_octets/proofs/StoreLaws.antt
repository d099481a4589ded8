-- The octets that each kind stores are its message, in front of what was there.
use Prim.Native.Nat.{ℕ, ◌+◌, ◌<◌, ◌≤◌}
use mathlib.Core.Path.{◌≡◌, ap, sym, subst, ◌∙◌}
use mathlib.Core.List.{List, [], ◌∷◌, ◌++◌}
use native.Mathlib.Omega.{arith}
use lib.ListN.{length, drop}
use lib.Seq.{sets, sets-eq}
use Rattle.layout.specs.declared.velocity.VelocityKind.{VelocityKind}
use Rattle.layout.specs.declared.velocity.VelocityKind.TheVariants.{Nothing, Horizontal, HorizontalVertical, HorizontalUncertain, HorizontalVerticalUncertain}
use Rattle.layout.specs.declared.velocity.Velocity.{Velocity}
use Rattle.layout.specs.Layout.{MessageField, Row, velocity_rows, velocity_type_of}
use Rattle.layout.specs.Layout as layout
use Rattle.layout.specs.Rows.{length_of, message}
use Rattle.layout.specs.Demands.{InFields}
use Rattle.layout.specs.Velocities.{velocity_value_of}
use Rattle.layout.proofs.TidyLaws.{message-length}
use Rattle.layout.proofs.VelocityMessageLaws.{horizontal-message, uncertain-message, all-message}
use Rattle.velocity_octets.specs.VelocityOctets.{VelocityStorable, Stored, first_number, front}

-- a message that is stored from the first octet on
in-front : (rows : List Row) (value : MessageField → ℕ) (before after m : List ℕ) → message rows value ≡ m → length_of rows ≤ length before → after ≡ sets before 0 m
    → after ≡ message rows value ++ drop (length_of rows) before
in-front rows value before after m e fits h =
    let l : length m ≡ length_of rows = sym (ap length e) ∙ message-length rows value in
    let n : 0 + length m ≡ length_of rows = omega arith in
    h ∙ sets-eq m before 0 (omega arith) ∙ rw (n, e)

nine-bits : (x : Velocity) (k : VelocityKind) → InFields (velocity_rows k) (velocity_value_of x) → x.bearing.0 < 512
nine-bits x Nothing v = omega (arith, v.each layout.bearing)
nine-bits x Horizontal v = v.each layout.bearing
nine-bits x HorizontalVertical v = v.each layout.bearing
nine-bits x HorizontalUncertain v = v.each layout.bearing
nine-bits x HorizontalVerticalUncertain v = v.each layout.bearing

module _ (x : Velocity) (room : ℕ) (can : VelocityStorable x room) where
  pub bearing-fits : x.bearing.0 < 512
  bearing-fits = nine-bits x x.kind can.fields

  -- what the kind's own rows say
  own-fields : (k : VelocityKind) → x.kind ≡ k → InFields (velocity_rows k) (velocity_value_of x)
  own-fields k e = subst (λ (j : VelocityKind). InFields (velocity_rows j) (velocity_value_of x)) e can.fields

  pub own_room : (k : VelocityKind) → x.kind ≡ k → length_of (velocity_rows k) ≤ room
  own_room k e = subst (λ (j : VelocityKind). length_of (velocity_rows j) ≤ room) e can.fits

module _ (x : Velocity) (before after : List ℕ) (can : VelocityStorable x (length before)) where
  own-stored : (k : VelocityKind) (m : List ℕ) → x.kind ≡ k → message (velocity_rows k) (velocity_value_of x) ≡ m → after ≡ sets before 0 m → Stored x before after
  own-stored k m e q h =
      subst (λ (j : VelocityKind). after ≡ message (velocity_rows j) (velocity_value_of x) ++ drop (length_of (velocity_rows j)) before) (sym e)
      (in-front (velocity_rows k) (velocity_value_of x) before after m q (own_room x _ can k e) h)

  module _ (n first : ℕ) (t : n ≡ velocity_type_of x.kind) (f : first ≡ first_number n x.vertical_speed.0 x.bearing.0) where
    pub horizontal-stored : x.kind ≡ Horizontal → after ≡ sets before 0 (front first x.horizontal_speed.0) → Stored x before after
    horizontal-stored e h =
        let v = own-fields x _ can Horizontal e in
        own-stored Horizontal _ e (horizontal-message (velocity_value_of x) (v.each layout.horizontal_speed) first (omega (arith, v.each layout.down))) h

    pub uncertain-stored : x.kind ≡ HorizontalUncertain
        → after ≡ sets before 0 (front first x.horizontal_speed.0 ++ (x.uncertainty.0 ∷ [])) → Stored x before after
    uncertain-stored e h =
        let v = own-fields x _ can HorizontalUncertain e in
        own-stored HorizontalUncertain _ e
        (uncertain-message (velocity_value_of x) (v.each layout.horizontal_speed) first (omega (arith, v.each layout.down)) (v.each layout.speed_uncertainty)) h

    pub all-stored : x.kind ≡ HorizontalVerticalUncertain
        → after ≡ sets before 0 (front first x.horizontal_speed.0 ++ (x.vertical_speed.1 ∷ x.uncertainty.0 ∷ x.vertical_uncertainty.0 ∷ []))
        → Stored x before after
    all-stored e h =
        let v = own-fields x _ can HorizontalVerticalUncertain e in
        own-stored HorizontalVerticalUncertain _ e
        (all-message (velocity_value_of x) (v.each layout.horizontal_speed) first (omega arith) (v.each layout.vertical_speed) (v.each layout.speed_uncertainty) (v.each layout.vertical_uncertainty)) h
