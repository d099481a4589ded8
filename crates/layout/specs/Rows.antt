-- What follows from any rows of the layout table: lengths, what reading means, what writing means, spare bits.
use Rattle.std.specs.Prelude.{cond, List, [], ◌∷◌, ℕ, ◌+◌, ◌-◌, ◌*◌, ◌/◌, ◌^◌, eqb}
use Rattle.octets.specs.Bits.{bits, octets}
use Rattle.layout.specs.Layout.{MessageField, Row}
use Rattle.layout.specs.Layout as layout

-- a number for each field, to tell them apart
abbrev pub tag : MessageField → ℕ
tag layout.type_number = 0
tag layout.count = 1
tag layout.depth = 2
tag layout.altitude = 3
tag layout.uncertainty = 4
tag layout.semi_major = 5
tag layout.semi_minor = 6
tag layout.orientation = 7
tag layout.altitude_uncertainty = 8
tag layout.confidence = 9
tag layout.inner_radius = 10
tag layout.offset = 11
tag layout.included = 12
tag layout.bearing = 13
tag layout.horizontal_speed = 14
tag layout.down = 15
tag layout.vertical_speed = 16
tag layout.speed_uncertainty = 17
tag layout.vertical_uncertainty = 18
tag (layout.south i) = 3 * i + 19
tag (layout.latitude i) = 3 * i + 20
tag (layout.longitude i) = 3 * i + 21

-- each of these rows
abbrev pub All : (Row → Type 0) → List Row → Type 0
All P [] = Unit {0}
All P (r ∷ rs) = P r × All P rs

-- a field's width, 0 where no row has it
abbrev pub width_of : List Row → MessageField → ℕ
width_of [] f = 0
width_of (r ∷ rs) f = cond (eqb (tag f) (tag r.field)) r.width (width_of rs f)

-- READING. The number in a field's bits, 0 where no row has it.
abbrev pub read : List ℕ → List Row → MessageField → ℕ
read s [] f = 0
read s (r ∷ rs) f = cond (eqb (tag f) (tag r.field)) (bits s r.first r.width) (read s rs f)

-- the bit after the last row, rows being in their order
abbrev pub end_of : ℕ → List Row → ℕ
end_of at [] = at
end_of at (r ∷ rs) = end_of (r.first + r.width) rs

-- a message's length in octets
abbrev pub length_of : List Row → ℕ
length_of rows = end_of 0 rows / 8

-- WRITING. The number of all bits to the last row's end, of which the first `at` bits make `so_far`: the bits between two
-- rows are zero, and a row's bits are its number.
abbrev pub packed : (Row → ℕ) → ℕ → ℕ → List Row → ℕ
packed number so_far at [] = so_far
packed number so_far at (r ∷ rs) =
    packed number (so_far * 2 ^ (r.first + r.width - at) + number r) (r.first + r.width) rs

-- the message of a field's numbers
abbrev pub message : List Row → (MessageField → ℕ) → List ℕ
message rows value = octets (length_of rows) (packed (λ r. value r.field) 0 0 rows)

-- a message with its spare bits zero: what its own rows hold, and nothing else
abbrev pub spare_zero : List Row → List ℕ → List ℕ
spare_zero rows s = octets (length_of rows) (packed (λ r. bits s r.first r.width) 0 0 rows)
