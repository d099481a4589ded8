-- A record that is read has no points after its last.
use Rattle.std.specs.Prelude.{Ok}
use mathlib.Core.Path.{◌≡◌, refl, sym, ◌∙◌, subst}
use mathlib.Core.Bool.{Bool, true, false}
use mathlib.Core.List.{List}
use Prim.Native.Nat.{ℕ, suc, ◌+◌, ◌*◌, ◌≤◌}
use native.Mathlib.Omega.{arith}
use lib.Dec.{ltb}
use lib.ListN.{get_or, get_or-eq_default}
use borrow.Author.Tests.{ltb-true, ltb-false}
use Rattle.octets.specs.Bits.{bits}
use Rattle.octets.specs.Codes.{sign_of, from_complement}
use Rattle.layout.specs.declared.shape.Kind.{Kind}
use Rattle.layout.specs.declared.shape.Kind.TheVariants.{Nothing, Point, Circle, Ellipse, Polygon, AltitudePoint, AltitudeEllipsoid, Arc}
use Rattle.layout.specs.declared.shape.Shape.{Shape}
use Rattle.layout.specs.Layout.{MessageField, count, south, latitude, longitude, shape_rows}
use Rattle.layout.specs.Rows.{tag, read}
use Rattle.layout.specs.Demands.{InFields}
use Rattle.layout.specs.Shapes.{kind_in, rows_in, shape_in, latitude_of, longitude_of, zero_latitude, zero_longitude, ReadsShape}
use Rattle.layout.proofs.TidyLaws.{read-in-fields}
use Rattle.layout.proofs.KindLaws.{points_of, no-point-width}
use Rattle.layout.proofs.ShapeRecords.{at-upto, length-upto}
use Rattle.code_arrays.specs.Shapes.{Ended}

-- ---- a record that is read

module _ (s : List ℕ) where
  value : MessageField → ℕ
  value = read s (rows_in s)

  none : (f : MessageField) → 22 ≤ tag f → 3 * points_of (kind_in s) (bits s 4 4) + 22 ≤ tag f → value f ≡ 0
  unfolding value
  none f l m =
      let h = rw (no-point-width (kind_in s) (bits s 4 4) f l m) at ((read-in-fields s (rows_in s)).each f) in
      omega arith

  points-counted : (k : Kind) → points_of k (bits s 4 4) ≤ read s (shape_rows k (bits s 4 4)) count
  points-counted Nothing = omega arith
  points-counted Point = omega arith
  points-counted Circle = omega arith
  points-counted Ellipse = omega arith
  points-counted Polygon = omega arith
  points-counted AltitudePoint = omega arith
  points-counted AltitudeEllipsoid = omega arith
  points-counted Arc = omega arith

  few : (k : Kind) → InFields (shape_rows k (bits s 4 4)) value → value count ≤ 15
  few Nothing h = let w = h.each count in omega arith
  few Point h = let w = h.each count in omega arith
  few Circle h = let w = h.each count in omega arith
  few Ellipse h = let w = h.each count in omega arith
  few Polygon h = let w = h.each count in omega arith
  few AltitudePoint h = let w = h.each count in omega arith
  few AltitudeEllipsoid h = let w = h.each count in omega arith
  few Arc h = let w = h.each count in omega arith

  module _ (i : ℕ) (h : (shape_in s).count ≤ i) where
    past : points_of (kind_in s) (bits s 4 4) ≤ i
    past = let p = points-counted (kind_in s) in omega arith

    latitude-at : (b : Bool) → ltb i 15 ≡ b → get_or (shape_in s).latitudes i zero_latitude ≡ zero_latitude
    unfolding value
    latitude-at true e =
        at-upto (λ (i : ℕ). latitude_of value (suc i)) 15 i zero_latitude (ltb-true i 15 e)
        ∙ (λ j. record { 0 = sign_of (none (south (suc i)) (omega arith) (omega (arith, past)) j); 1 = none (latitude (suc i)) (omega arith) (omega (arith, past)) j })
    latitude-at false e =
        let l : 15 ≤ i = ltb-false i 15 e in
        get_or-eq_default (shape_in s).latitudes zero_latitude {n = i} (omega (arith, length-upto (λ (i : ℕ). latitude_of value (suc i)) 15))

    longitude-at : (b : Bool) → ltb i 15 ≡ b → get_or (shape_in s).longitudes i zero_longitude ≡ zero_longitude
    unfolding value from_complement
    longitude-at true e =
        at-upto (λ (i : ℕ). longitude_of value (suc i)) 15 i zero_longitude (ltb-true i 15 e)
        ∙ (λ j. record { 0 = from_complement (none (longitude (suc i)) (omega arith) (omega (arith, past)) j) })
    longitude-at false e =
        let l : 15 ≤ i = ltb-false i 15 e in
        get_or-eq_default (shape_in s).longitudes zero_longitude {n = i} (omega (arith, length-upto (λ (i : ℕ). longitude_of value (suc i)) 15))

  read-ended : Ended (shape_in s).latitudes (shape_in s).longitudes (shape_in s).count
  unfolding value
  read-ended = record {
    most = few (kind_in s) (read-in-fields s (rows_in s));
    no_latitude = λ i h. latitude-at i h (ltb i 15) refl;
    no_longitude = λ i h. longitude-at i h (ltb i 15) refl;
  }

  pub ended : (x : Shape) → ReadsShape s (Ok x) → Ended x.latitudes x.longitudes x.count
  ended x p = subst (λ (y : Shape). Ended y.latitudes y.longitudes y.count) (sym p.shape) read-ended
