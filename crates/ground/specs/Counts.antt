-- How many codes a field has where its bits hold more: a code from there on is refused with 5, a confidence's with 6.
use Rattle.std.specs.Prelude.{ℕ}

-- of an orientation, an offset, an included angle
abbrev pub angle_codes : ℕ
angle_codes = 180

abbrev pub bearing_codes : ℕ
bearing_codes = 360

-- none, and 1 to 100 per cent
abbrev pub confidence_codes : ℕ
confidence_codes = 101
