-- DEMAND 2 FOR VELOCITIES, as for shapes.
use Rattle.std.specs.Prelude.{Result, Ok}
use Rattle.std.proofs.lemmas.Result.{IfOk-weaker}
use Prim.Native.Nat.{ℕ, zero, suc, ◌^◌, ◌≤◌, ◌<◌}
use mathlib.Core.Path.{◌≡◌, refl, ap, sym, subst, ◌∙◌}
use mathlib.Core.List.{List, ◌++◌}
use native.Mathlib.Omega.{arith}
use lib.ListN.{length, take, drop}
use Rattle.ground.specs.Answers.{outcome_number}
use Rattle.ground.specs.declared.refusals.Refusal.{Refusal}
use Rattle.octets.specs.Bits.{bits}
use Rattle.layout.specs.declared.velocity.VelocityKind.{VelocityKind}
use Rattle.layout.specs.declared.velocity.VelocityKind.TheVariants.{Nothing, Horizontal, HorizontalVertical, HorizontalUncertain, HorizontalVerticalUncertain}
use Rattle.layout.specs.declared.velocity.Velocity.{Velocity}
use Rattle.layout.specs.Layout.{MessageField, Row, velocity_rows, velocity_type_of}
use Rattle.layout.specs.Layout as layout
use Rattle.layout.specs.Rows.{read, length_of, message, spare_zero}
use Rattle.layout.specs.Demands.{TypeKnown, ReadAnswer, WriteAnswer, Sound}
use Rattle.layout.specs.Velocities.{velocity_kind_of, velocity_kind_in, velocity_rows_in, velocity_in, velocity_of, velocity_value_of, ReadsVelocity, WritesVelocity}
use Rattle.layout.specs.Messages.{SameButSpare}
use Rattle.layout.proofs.SpareReading.{spare-numbers, spare-answer}
use Rattle.layout.proofs.TidyLaws.{read-in-fields, read-message}
use Rattle.layout.proofs.KindLaws.{velocity-tidy}
use Rattle.layout.proofs.DemandLaws.{Readable}
use Rattle.layout.proofs.WidthLaws.{velocity_widest, velocity-code-of}
use Rattle.layout.proofs.ShapeRecords.{sign-back, bit-back}
use Rattle.layout.proofs.Trips.{Coder, Read, taken, accepted, again, same-but-spare, back}

-- ---- the type

type-read : (k : VelocityKind) (s : List ℕ) → TypeKnown (velocity_rows k) → read s (velocity_rows k) layout.type_number ≡ bits s 0 4
type-read Nothing s h = absurd (omega arith)
type-read Horizontal s h = refl
type-read HorizontalVertical s h = refl
type-read HorizontalUncertain s h = refl
type-read HorizontalVerticalUncertain s h = refl

pub kind-back : (k : VelocityKind) → TypeKnown (velocity_rows k) → velocity_kind_of (velocity_type_of k) ≡ k
kind-back Nothing h = absurd (omega arith)
kind-back Horizontal h = refl
kind-back HorizontalVertical h = refl
kind-back HorizontalUncertain h = refl
kind-back HorizontalVerticalUncertain h = refl

pub type-back : (t : ℕ) → TypeKnown (velocity_rows (velocity_kind_of t)) → velocity_type_of (velocity_kind_of t) ≡ t
type-back zero h = refl
type-back (suc zero) h = refl
type-back (suc (suc zero)) h = refl
type-back (suc (suc (suc zero))) h = refl
type-back (suc (suc (suc (suc t)))) h = absurd (omega arith)

-- ---- the record and its numbers

module _ (k : VelocityKind) (value : MessageField → ℕ) (type-number : velocity_type_of k ≡ value layout.type_number) (codes : (f : MessageField) → value f < 2 ^ velocity_widest f) where
  unused : (f : MessageField) → value f < 1 → 0 ≡ value f
  unused f h = omega arith

  pub values_of : (f : MessageField) → velocity_value_of (velocity_of k value) f ≡ value f
  values_of layout.type_number = type-number
  values_of layout.bearing = refl
  values_of layout.horizontal_speed = refl
  values_of layout.down = bit-back (value layout.down) (codes layout.down)
  values_of layout.vertical_speed = refl
  values_of layout.speed_uncertainty = refl
  values_of layout.vertical_uncertainty = refl
  values_of layout.count = unused layout.count (codes layout.count)
  values_of (layout.south i) = unused (layout.south i) (codes (layout.south i))
  values_of (layout.latitude i) = unused (layout.latitude i) (codes (layout.latitude i))
  values_of (layout.longitude i) = unused (layout.longitude i) (codes (layout.longitude i))
  values_of layout.depth = unused layout.depth (codes layout.depth)
  values_of layout.altitude = unused layout.altitude (codes layout.altitude)
  values_of layout.uncertainty = unused layout.uncertainty (codes layout.uncertainty)
  values_of layout.semi_major = unused layout.semi_major (codes layout.semi_major)
  values_of layout.semi_minor = unused layout.semi_minor (codes layout.semi_minor)
  values_of layout.orientation = unused layout.orientation (codes layout.orientation)
  values_of layout.altitude_uncertainty = unused layout.altitude_uncertainty (codes layout.altitude_uncertainty)
  values_of layout.confidence = unused layout.confidence (codes layout.confidence)
  values_of layout.inner_radius = unused layout.inner_radius (codes layout.inner_radius)
  values_of layout.offset = unused layout.offset (codes layout.offset)
  values_of layout.included = unused layout.included (codes layout.included)

pub velocity-of-values : (x : Velocity) → velocity_of x.kind (velocity_value_of x) ≡ x
velocity-of-values x = λ j. record {
  kind = x.kind;
  bearing = x.bearing;
  horizontal_speed = x.horizontal_speed;
  vertical_speed = record { 0 = sign-back x.vertical_speed.0 j; 1 = x.vertical_speed.1 };
  uncertainty = x.uncertainty;
  vertical_uncertainty = x.vertical_uncertainty;
}

values-in : (s : List ℕ) → Readable (velocity_rows_in s) s → (f : MessageField) → velocity_value_of (velocity_in s) f ≡ read s (velocity_rows_in s) f
values-in s h = values_of (velocity_kind_in s) (read s (velocity_rows_in s))
    (type-back (bits s 0 4) h.listed ∙ sym (type-read (velocity_kind_in s) s h.listed))
    (velocity-code-of (velocity_kind_in s) (read s (velocity_rows_in s)) (read-in-fields s (velocity_rows_in s)))

module _ (x : Velocity) (h : Sound (velocity_rows x.kind) (velocity_value_of x)) where
  kind-of : (s : List ℕ) → bits s 0 4 ≡ velocity_type_of x.kind → velocity_kind_in s ≡ x.kind
  kind-of s e = ap velocity_kind_of e ∙ kind-back x.kind h.listed

  rows_back : velocity_rows_in (message (velocity_rows x.kind) (velocity_value_of x)) ≡ velocity_rows x.kind
  rows_back =
      let m = message (velocity_rows x.kind) (velocity_value_of x) in
      ap velocity_rows (kind-of m (sym (type-read x.kind m h.listed) ∙ read-message (velocity_rows x.kind) (velocity-tidy x.kind) (velocity_value_of x) h.fields layout.type_number))

  record-back : (s : List ℕ) → velocity_rows_in s ≡ velocity_rows x.kind → ((f : MessageField) → read s (velocity_rows_in s) f ≡ velocity_value_of x f) → velocity_in s ≡ x
  record-back s e same =
      let listed : TypeKnown (velocity_rows_in s) = subst (λ (rows : List Row). TypeKnown rows) (sym e) h.listed in
      ap (λ (j : VelocityKind). velocity_of j (read s (velocity_rows_in s))) (kind-of s (sym (type-read (velocity_kind_in s) s listed) ∙ same layout.type_number))
      ∙ ap (velocity_of x.kind) (λ i f. same f i)
      ∙ velocity-of-values x

-- ---- DEMAND 2

velocities : Coder Velocity
velocities = record {
  rows_of = λ x. velocity_rows x.kind;
  value = velocity_value_of;
  rows_in = velocity_rows_in;
  record_in = velocity_in;
  Whole = λ x. Unit {0};
  tidy_of = λ x. velocity-tidy x.kind;
  tidy-in = λ s. velocity-tidy (velocity_kind_in s);
  rows_in_lem = λ s h. refl;
  values-in = values-in;
  rows_back = rows_back;
  record-back = λ x whole h. record-back x h;
}

as_read : (s : List ℕ) (r : Result Velocity Refusal) → ReadsVelocity s r → Read velocities s r
unfolding velocities
as_read s r h = record { answer = h.answer; handed-back = h.velocity }

done-read : (s : List ℕ) (r : Result Velocity Refusal) → ReadsVelocity s r → (x : Velocity) → r ≡ Ok x → Read velocities s (Ok x)
done-read s r h x e = subst (λ (q : Result Velocity Refusal). Read velocities s q) e (as_read s r h)

module _ (s : List ℕ) (r : Result Velocity Refusal) (h : ReadsVelocity s r) (x : Velocity) (done : r ≡ Ok x) where
  module _ (before after : List ℕ) (w : Result ℕ Refusal) (writes : WritesVelocity x before after w) (room : length s ≤ length before) where
    -- every record that the reader hands out is one that the writer takes, room given
    pub velocity-taken : w ≡ Ok (length s)
    unfolding velocities
    velocity-taken = taken velocities s x (done-read s r h x done) before after w writes room

    -- an accepted message written again gives its own octets with the spare bits zero; the other octets keep their values
    pub velocity-again : after ≡ spare_zero (velocity_rows_in s) s ++ drop (length s) before
    unfolding velocities
    velocity-again = again velocities s x (done-read s r h x done) before after w writes room

  pub velocity-accepted : WriteAnswer (velocity_rows x.kind) (velocity_value_of x) (length_of (velocity_rows x.kind)) 0
  unfolding velocities
  velocity-accepted = accepted velocities s x (done-read s r h x done)

  -- two messages with the same record are the same but for spare bits
  pub velocity-same-but-spare : (t : List ℕ) (q : Result Velocity Refusal) → ReadsVelocity t q → q ≡ Ok x → spare_zero (velocity_rows_in s) s ≡ spare_zero (velocity_rows_in t) t
  unfolding velocities
  velocity-same-but-spare t q g end = same-but-spare velocities s x (done-read s r h x done) t (done-read t q g x end)

-- a record that the writer takes, written and read, gives that record
pub velocity-back : (x : Velocity) (before after : List ℕ) (w : Result ℕ Refusal) (n : ℕ) (r : Result Velocity Refusal) → WritesVelocity x before after w → w ≡ Ok n → ReadsVelocity (take n after) r
    → r ≡ Ok x
unfolding velocities
velocity-back x before after w n r writes done h = back velocities x before after w n r tt writes done (as_read (take n after) r h)

-- two strings that differ in spare bits alone get the same answer and the same record
module _ (s t : List ℕ) (same : SameButSpare (velocity_rows_in s) s t) where
  pub velocity-spare : (r : Result Velocity Refusal) → ReadsVelocity s r → ReadsVelocity t r
  velocity-spare r h =
      let kinds : velocity_kind_in t ≡ velocity_kind_in s = ap velocity_kind_of (sym same.types) in
      let rows : velocity_rows_in t ≡ velocity_rows_in s = ap velocity_rows kinds in
      let numbers : read t (velocity_rows_in t) ≡ read s (velocity_rows_in s) = ap (read t) rows ∙ sym (spare-numbers (velocity_rows_in s) s t same) in
      let velocities-same : velocity_in t ≡ velocity_in s = λ i. velocity_of (kinds i) (numbers i) in
      record {
        answer = subst (λ (rows : List Row). ReadAnswer rows t (outcome_number r)) (sym rows) (spare-answer (velocity_rows_in s) s t same _ h.answer);
        velocity = IfOk-weaker r (λ x. x ≡ velocity_in s) (λ x. x ≡ velocity_in t) (λ x e. e ∙ sym velocities-same) h.velocity;
      }
