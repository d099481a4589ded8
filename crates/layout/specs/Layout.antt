-- THE TABLE of document 01, "Octet layouts": where each field of each type stands, its first bit and its width. Bit 0 is
-- the high bit of octet 1. A bit that no row has is spare.
use Rattle.std.specs.Prelude.{List, [], ◌∷◌, ◌++◌, ℕ, zero, suc, ◌+◌, ◌-◌, ◌*◌}
use Rattle.layout.specs.declared.shape.Kind.{Kind}
use Rattle.layout.specs.declared.shape.Kind.TheVariants as shape
use Rattle.layout.specs.declared.velocity.VelocityKind.{VelocityKind}
use Rattle.layout.specs.declared.velocity.VelocityKind.TheVariants as velocity

pub data MessageField : Type 0 where
  type_number count : MessageField
  -- of the single point, 0, or of a polygon's points, from 1
  south latitude longitude : ℕ → MessageField
  depth altitude uncertainty semi_major semi_minor orientation altitude_uncertainty confidence : MessageField
  inner_radius offset included : MessageField
  bearing horizontal_speed down vertical_speed speed_uncertainty vertical_uncertainty : MessageField

pub record Row : Type 0 where
  pub field : MessageField
  pub first : ℕ
  pub width : ℕ

abbrev pub row : MessageField → ℕ → ℕ → Row
row f first width = record { field = f; first = first; width = width }

-- ---- by document 01's octet numbers, from 1

-- the high bit of an octet
abbrev pub high_bit : ℕ → ℕ
high_bit octet = 8 * octet - 8

-- a whole octet; the low seven bits of one, whose high bit is spare; two octets
abbrev pub whole : MessageField → ℕ → Row
whole f octet = row f (high_bit octet) 8

abbrev pub seven : MessageField → ℕ → Row
seven f octet = row f (high_bit octet + 1) 7

abbrev pub two : MessageField → ℕ → Row
two f octet = row f (high_bit octet) 16

-- ---- what types share

-- the type in bits 8 to 5 of octet 1
abbrev pub type_row : Row
type_row = row type_number 0 4

-- S and latitude, then longitude: six octets, from bit `first` on
abbrev pub position_rows : ℕ → ℕ → List Row
position_rows i first = row (south i) first 1 ∷ row (latitude i) (first + 1) 23 ∷ row (longitude i) (first + 24) 24 ∷ []

-- octets 1 to 7 of every shape but a polygon: S and latitude 2-4, longitude 5-7
abbrev pub start : List Row
start = type_row ∷ position_rows 0 (high_bit 2)

-- D and altitude 8-9
abbrev pub altitude_rows : List Row
altitude_rows = row depth (high_bit 8) 1 ∷ row altitude (high_bit 8 + 1) 15 ∷ []

-- n points of a polygon, after the first i: six octets each, from octet 2 on
abbrev pub points : ℕ → ℕ → List Row
points i zero = []
points i (suc n) = position_rows (suc i) (8 + 48 * i) ++ points (suc i) n

-- ---- shapes; n is a polygon's count, in bits 4 to 1 of octet 1

abbrev pub shape_rows : Kind → ℕ → List Row
shape_rows shape.Nothing n = []
shape_rows shape.Point n = start
shape_rows shape.Circle n = start ++ seven uncertainty 8 ∷ []
shape_rows shape.Ellipse n = start ++ seven semi_major 8 ∷ seven semi_minor 9 ∷ whole orientation 10 ∷ seven confidence 11 ∷ []
shape_rows shape.Polygon n = type_row ∷ row count 4 4 ∷ points 0 n
shape_rows shape.AltitudePoint n = start ++ altitude_rows
shape_rows shape.AltitudeEllipsoid n =
    start ++ altitude_rows ++ seven semi_major 10 ∷ seven semi_minor 11 ∷ whole orientation 12 ∷ seven altitude_uncertainty 13 ∷ seven confidence 14 ∷ []
shape_rows shape.Arc n =
    start ++ two inner_radius 8 ∷ seven uncertainty 10 ∷ whole offset 11 ∷ whole included 12 ∷ seven confidence 13 ∷ []

-- ---- velocities

-- bearing in bit 1 of octet 1 and octet 2, horizontal speed 3-4
abbrev pub motion : List Row
motion = row bearing 7 9 ∷ two horizontal_speed 3 ∷ []

-- D in bit 2 of octet 1
abbrev pub down_row : Row
down_row = row down 6 1

abbrev pub velocity_rows : VelocityKind → List Row
velocity_rows velocity.Nothing = []
velocity_rows velocity.Horizontal = type_row ∷ motion
velocity_rows velocity.HorizontalVertical = type_row ∷ down_row ∷ motion ++ whole vertical_speed 5 ∷ []
velocity_rows velocity.HorizontalUncertain = type_row ∷ motion ++ whole speed_uncertainty 5 ∷ []
velocity_rows velocity.HorizontalVerticalUncertain =
    type_row ∷ down_row ∷ motion ++ whole vertical_speed 5 ∷ whole speed_uncertainty 6 ∷ whole vertical_uncertainty 7 ∷ []

-- the type numbers
abbrev pub type_of : Kind → ℕ
type_of shape.Nothing = 0
type_of shape.Point = 0
type_of shape.Circle = 1
type_of shape.Ellipse = 3
type_of shape.Polygon = 5
type_of shape.AltitudePoint = 8
type_of shape.AltitudeEllipsoid = 9
type_of shape.Arc = 10

abbrev pub velocity_type_of : VelocityKind → ℕ
velocity_type_of velocity.Nothing = 0
velocity_type_of velocity.Horizontal = 0
velocity_type_of velocity.HorizontalVertical = 1
velocity_type_of velocity.HorizontalUncertain = 2
velocity_type_of velocity.HorizontalVerticalUncertain = 3
