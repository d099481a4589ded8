-- From the answers of the reader's parts to its promise.
use Rattle.std.specs.Prelude.{Ok, Err}
use Prim.Native.Nat.{ℕ, ◌<◌, ◌≤◌}
use mathlib.Core.Path.{◌≡◌, refl, ap, subst, ◌∙◌}
use mathlib.Core.List.{List}
use native.Mathlib.Omega.{arith}
use lib.ListN.{length}
use Rattle.ground.specs.Answers.{number_of, Unless, Else0, unmet, met}
use Rattle.ground.specs.declared.refusals.Refusal.{Refusal}
use Rattle.ground.specs.declared.refusals.Refusal.TheVariants.{AngleCode}
use Rattle.ground.proofs.AnswerLaws.{not-0, when-done, unless-as}
use Rattle.layout.specs.declared.velocity.VelocityKind.{VelocityKind}
use Rattle.layout.specs.declared.velocity.Velocity.{Velocity}
use Rattle.layout.specs.Layout.{bearing, velocity_rows}
use Rattle.layout.specs.Rows.{read}
use Rattle.layout.specs.Demands.{TypeKnown, ReadAnswer}
use Rattle.layout.specs.Velocities.{velocity_kind_in, velocity_rows_in, ReadsVelocity}
use Rattle.velocity_octets.specs.VelocityOctets.{VelocityOfLength, velocity_of_kind}
use Rattle.velocities.specs.Reading.{VelocityFormAnswer}
use Rattle.velocities.proofs.DemandLaws.{no-count, no-confidence, sound-bearing, bearing-sound}

-- ---- the whole answer for a kind, from the form's and the bearing's

module _ (s : List ℕ) (k : VelocityKind) where
  formed : VelocityFormAnswer k (length s) 0 → TypeKnown (velocity_rows k) × VelocityOfLength k s
  formed a =
      let l = when-done _ 2 _ (λ e. absurd (omega arith)) a in
      let w = when-done _ 3 _ (λ e. absurd (omega arith)) l.1 in
      (l.0, w.0)

  whole : (m : ℕ) → 0 < length s → VelocityFormAnswer k (length s) 0 → Unless (read s (velocity_rows k) bearing < 360) 5 Else0 m → ReadAnswer (velocity_rows k) s m
  whole m some a b =
      let f = formed a in
      met some (met f.0 (met (no-count _ k) (met f.1 (unless-as (sound-bearing _ k) (bearing-sound _ k f.0) (λ e. met (no-confidence _ k) e) b))))

  no-form : (why : Refusal) → 0 < length s → VelocityFormAnswer k (length s) (number_of why) → ReadAnswer (velocity_rows k) s (number_of why)
  no-form why some a =
      met some (unless-as (λ l. l) (λ l. l) (λ w. met (no-count _ k) (unless-as (λ h. h) (λ h. h) (λ e. absurd (not-0 why e)) w)) a)

-- ---- the promise

module _ (s : List ℕ) where
  pub refused-read : (why : Refusal) → ReadAnswer (velocity_rows_in s) s (number_of why) → ReadsVelocity s (Err why)
  refused-read why a = record { answer = a; velocity = tt }

  module _ (k : VelocityKind) (some : 0 < length s) (e : k ≡ velocity_kind_in s) where
    -- the answer for the kind that the octets have
    own : (m : ℕ) → ReadAnswer (velocity_rows k) s m → ReadAnswer (velocity_rows_in s) s m
    own m b = subst (λ (j : VelocityKind). ReadAnswer (velocity_rows j) s m) e b

    pub form-refused : (why : Refusal) → VelocityFormAnswer k (length s) (number_of why) → ReadsVelocity s (Err why)
    form-refused why a = refused-read why (own _ (no-form s k why some a))

    module _ (a : VelocityFormAnswer k (length s) 0) where
      pub of_length : VelocityOfLength k s
      of_length = (formed s k a).1

      -- the record x
      module _ (x : Velocity) (g : x ≡ velocity_of_kind k s) where
        bearing-read : x.bearing.0 ≡ read s (velocity_rows k) bearing
        bearing-read = ap (λ (y : Velocity). y.bearing.0) g

        pub bearing-refused : 360 ≤ x.bearing.0 → ReadsVelocity s (Err AngleCode)
        bearing-refused l = refused-read AngleCode (own 5 (whole s k 5 some a (unmet (λ b. absurd (omega (arith, bearing-read))) refl)))

        pub done-read : x.bearing.0 < 360 → ReadsVelocity s (Ok x)
        done-read l = record {
          answer = own 0 (whole s k 0 some a (met (omega (arith, bearing-read)) refl));
          velocity = g ∙ ap (λ (j : VelocityKind). velocity_of_kind j s) e;
        }
