-- The record that the loop makes is the one that a polygon's rows say.
use Prim.Native.Nat.{ℕ, suc, ◌+◌, ◌-◌, ◌*◌, ◌≤◌, ◌<◌}
use mathlib.Core.Path.{◌≡◌, ap, sym, ◌∙◌}
use mathlib.Core.List.{List, ◌++◌}
use native.Mathlib.Omega.{arith}
use lib.ListN.{replicate}
use Rattle.octets.specs.Bits.{bits}
use Rattle.octets.specs.Codes.{sign_of, from_complement, latitude_in, longitude_in}
use Rattle.layout.specs.declared.shape.Kind.TheVariants.{Polygon}
use Rattle.layout.specs.Layout.{MessageField}
use Rattle.layout.specs.Layout as layout
use Rattle.layout.specs.Rows.{tag, read}
use Rattle.layout.specs.Shapes.{upto, latitude_of, longitude_of, zero_latitude, zero_longitude}
use Rattle.layout.proofs.TidyLaws.{read-bits, read-row}
use Rattle.layout.proofs.PolygonLaws.{point-row, point-found, none_found}
use Rattle.fetching.specs.Fetching.{rows_for, shape_of_kind, polygon_of}
use Rattle.fetching.proofs.Filling.{padded}

module _ (s : List ℕ) where
  n : ℕ
  n = bits s 4 4

  value : MessageField → ℕ
  value = read s (rows_for Polygon s)

  no_bits : (first w : ℕ) → w ≡ 0 → bits s first w ≡ 0
  unfolding bits
  no_bits first w e = rw e

  -- a field that is not the polygon's is zero
  none : (f : MessageField) → 2 ≤ tag f → (22 ≤ tag f → 3 * n + 22 ≤ tag f) → 0 ≡ value f
  unfolding n value
  none f l h = sym (read-bits s (rows_for Polygon s) f ∙ no_bits _ _ (none_found (bits s 4 4) f l h))

  low : (f : MessageField) → 2 ≤ tag f → tag f < 22 → 0 ≡ value f
  low f l h = none f l (λ m. absurd (omega arith))

  -- a field of the point i
  point : (r i : ℕ) → i < n → bits s (point-row r i).first (point-row r i).width ≡ value (point-row r i).field
  unfolding n value
  point r i h = sym (read-row s (rows_for Polygon s) (point-row r i) (point-found (bits s 4 4) r i h))

  latitude-of : (i : ℕ) → i < n → latitude_in s (8 * (1 + 6 * i)) ≡ latitude_of value (suc i)
  latitude-of i h =
      let e : 8 * (1 + 6 * i) ≡ 8 + 48 * i = omega arith in
      rw e (λ j. record { 0 = sign_of (point 0 i h j); 1 = point 1 i h j })

  longitude-of : (i : ℕ) → i < n → longitude_in s (8 * (4 + 6 * i)) ≡ longitude_of value (suc i)
  longitude-of i h =
      let e : 8 * (4 + 6 * i) ≡ 8 + 48 * i + 24 = omega arith in
      rw e (λ j. record { 0 = from_complement (point 2 i h j) })

  no_latitude : (i : ℕ) → n ≤ i → zero_latitude ≡ latitude_of value (suc i)
  no_latitude i h = λ j. record { 0 = sign_of (none (layout.south (suc i)) (omega arith) (λ m. omega arith) j); 1 = none (layout.latitude (suc i)) (omega arith) (λ m. omega arith) j }

  no_longitude : (i : ℕ) → n ≤ i → zero_longitude ≡ longitude_of value (suc i)
  unfolding from_complement
  no_longitude i h = λ j. record { 0 = from_complement (none (layout.longitude (suc i)) (omega arith) (λ m. omega arith) j) }

  fifteen : {A : Type 0} (f g : ℕ → A) (z : A) → n ≤ 15 → ((i : ℕ) → i < n → f i ≡ g i) → ((i : ℕ) → n ≤ i → z ≡ g i) → upto n f ++ replicate (15 - n) z ≡ upto 15 g
  fifteen f g z h same pad =
      let e : n + (15 - n) ≡ 15 = omega arith in
      padded f n (15 - n) z g same pad ∙ ap (λ (m : ℕ). upto m g) e

  pub polygon-record : bits s 4 4 ≤ 15 → polygon_of (bits s 4 4) s ≡ shape_of_kind Polygon s
  unfolding from_complement n value
  polygon-record h = λ j. record {
    kind = Polygon;
    latitude = record { 0 = sign_of (low (layout.south 0) (omega arith) (omega arith) j); 1 = low (layout.latitude 0) (omega arith) (omega arith) j };
    longitude = record { 0 = from_complement (low (layout.longitude 0) (omega arith) (omega arith) j) };
    altitude = record { 0 = sign_of (low layout.depth (omega arith) (omega arith) j); 1 = low layout.altitude (omega arith) (omega arith) j };
    uncertainty = record { 0 = low layout.uncertainty (omega arith) (omega arith) j };
    semi_major = record { 0 = low layout.semi_major (omega arith) (omega arith) j };
    semi_minor = record { 0 = low layout.semi_minor (omega arith) (omega arith) j };
    orientation = record { 0 = low layout.orientation (omega arith) (omega arith) j };
    altitude_uncertainty = record { 0 = low layout.altitude_uncertainty (omega arith) (omega arith) j };
    confidence = record { 0 = low layout.confidence (omega arith) (omega arith) j };
    inner_radius = record { 0 = low layout.inner_radius (omega arith) (omega arith) j };
    offset = record { 0 = low layout.offset (omega arith) (omega arith) j };
    included = record { 0 = low layout.included (omega arith) (omega arith) j };
    count = bits s 4 4;
    latitudes = fifteen (λ i. latitude_in s (8 * (1 + 6 * i))) (λ i. latitude_of value (suc i)) zero_latitude h latitude-of no_latitude j;
    longitudes = fifteen (λ i. longitude_in s (8 * (4 + 6 * i))) (λ i. longitude_of value (suc i)) zero_longitude h longitude-of no_longitude j;
  }
