-- A point of the record that elements say, where its numbers are within their fields.
use Prim.Native.Nat.{ℕ, suc, ◌+◌, ◌*◌, ◌<◌}
use mathlib.Core.Path.{◌≡◌, refl, ap, ◌∙◌}
use mathlib.Core.List.{List}
use native.Mathlib.Omega.{arith}
use lib.ListN.{get_or, take}
use Rattle.ground.specs.declared.code.LongitudeCode.{LongitudeCode}
use Rattle.octets.specs.Codes.{sign_of, complement, position}
use Rattle.octets.proofs.ComplementLaws.{complement-again}
use Rattle.layout.specs.Layout.{south, latitude, longitude}
use Rattle.layout.specs.Shapes.{latitude_of, longitude_of, zero_latitude, zero_longitude}
use Rattle.layout.proofs.ShapeRecords.{at-upto}
use Rattle.code_arrays.specs.CodeNumbers.{element_at, from_bits}
use Rattle.code_arrays.specs.Shapes.{value_in, record_in}
use Rattle.limits.specs.Limits.{PointWithin}
use Rattle.code_arrays.proofs.ArrayLaws.{same-element}

module _ (elements : List ℕ) where
  module _ (i : ℕ) (l : i < 15) (within : PointWithin elements i) where
    element : (at n : ℕ) → at ≡ n → n < 61 → element_at elements at ≡ element_at (take 61 elements) n
    element at n e h = ap (element_at elements) e ∙ same-element elements n h

    sign : element_at elements (16 + 3 * i) ≡ value_in elements (south (suc i))
    sign = element (16 + 3 * i) (16 + 3 * i) refl (omega arith)

    size : element_at elements (16 + 3 * i + 1) ≡ value_in elements (latitude (suc i))
    size = element (16 + 3 * i + 1) (17 + 3 * i) (omega arith) (omega arith)

    turn : complement (from_bits (element_at elements (16 + 3 * i + 2))) ≡ value_in elements (longitude (suc i))
    turn = ap (λ (n : ℕ). complement (from_bits n)) (element (16 + 3 * i + 2) (18 + 3 * i) (omega arith) (omega arith))

    pub point-size : element_at elements (16 + 3 * i + 1) < 8388608
    point-size = rw size within.size

    -- its octets are those of the record's point
    pub point-octets : {c : LongitudeCode} → c.0 ≡ from_bits (element_at elements (16 + 3 * i + 2))
        → position (record { 0 = sign_of (element_at elements (16 + 3 * i)); 1 = element_at elements (16 + 3 * i + 1) }) c ≡ position (get_or (record_in elements).latitudes i zero_latitude) (get_or (record_in elements).longitudes i zero_longitude)
    point-octets e =
        let a = at-upto (λ j. latitude_of (value_in elements) (suc j)) 15 i zero_latitude l in
        let o = at-upto (λ j. longitude_of (value_in elements) (suc j)) 15 i zero_longitude l in
        rw (a, o, complement-again (value_in elements (longitude (suc i))) within.turn, e, sign, size, turn)
