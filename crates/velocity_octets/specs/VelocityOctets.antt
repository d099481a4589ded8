-- A velocity's record in octets, and the octets of a record, in the words of the layout table.
use Rattle.std.specs.Prelude.{◌≡◌, Bool, List, [], ◌∷◌, ◌++◌, ℕ, ◌+◌, ◌*◌, ◌≤◌, length, drop}
use Rattle.octets.specs.Bits.{octets}
use Rattle.octets.specs.Codes.{bit_of}
use Rattle.layout.specs.declared.velocity.VelocityKind.{VelocityKind}
use Rattle.layout.specs.declared.velocity.Velocity.{Velocity}
use Rattle.layout.specs.Layout.{Row, whole, vertical_speed, down_row, motion, velocity_rows}
use Rattle.layout.specs.Rows.{read, length_of, message}
use Rattle.layout.specs.Demands.{InFields}
use Rattle.layout.specs.Velocities.{velocity_of, velocity_value_of}

-- octets as many as a kind's messages have
abbrev pub VelocityOfLength : VelocityKind → List ℕ → Type 0
VelocityOfLength k s = length s ≡ length_of (velocity_rows k)

-- the record of a kind in octets; of bearing and horizontal speed alone; with the vertical speed
abbrev pub velocity_of_kind : VelocityKind → List ℕ → Velocity
velocity_of_kind k s = velocity_of k (read s (velocity_rows k))

abbrev pub motion_of : VelocityKind → List ℕ → Velocity
motion_of k s = velocity_of k (read s motion)

abbrev pub vertical_of : VelocityKind → List ℕ → Velocity
vertical_of k s = velocity_of k (read s (down_row ∷ motion ++ whole vertical_speed 5 ∷ []))

-- ---- a record's octets

abbrev pub velocity_rows_of : Velocity → List Row
velocity_rows_of x = velocity_rows x.kind

abbrev pub VelocityInFields : Velocity → Type 0
VelocityInFields x = InFields (velocity_rows_of x) (velocity_value_of x)

-- a record whose message can be stored in so much room
pub record VelocityStorable (x : Velocity) (room : ℕ) : Type 0 where
  pub fields : VelocityInFields x
  pub fits : length_of (velocity_rows_of x) ≤ room

-- the message in the first octets, and the others as they were
abbrev pub Stored : Velocity → List ℕ → List ℕ → Type 0
Stored x before after = after ≡ message (velocity_rows_of x) (velocity_value_of x) ++ drop (length_of (velocity_rows_of x)) before

-- the type, D and the bearing as the number of two octets; those and the horizontal speed's two
abbrev pub first_number : ℕ → Bool → ℕ → ℕ
first_number type sign bearing = 4096 * type + 512 * bit_of sign + bearing

abbrev pub front : ℕ → ℕ → List ℕ
front first speed = octets 2 first ++ octets 2 speed
