-- A message stored part after part.
use Prim.Native.Nat.{ℕ, zero, suc, ◌+◌, ◌*◌, ◌≤◌, ◌<◌}
use mathlib.Core.Path.{◌≡◌, refl, sym, ap, subst, ◌∙◌}
use mathlib.Core.List.{List, ◌∷◌, ◌++◌}
use native.Mathlib.Omega.{arith}
use native.Mathlib.Nat.{zero-add, add-zero}
use native.Mathlib.Numerals.{add-one}
use lib.ListN.{length, length-append, drop, get_or}
use lib.Seq.{sets, sets-eq}
use Rattle.ground.specs.declared.code.LatitudeCode.{LatitudeCode}
use Rattle.ground.specs.declared.code.LongitudeCode.{LongitudeCode}
use Rattle.ground.proofs.ListLaws.{sets-append}
use Rattle.layout.specs.declared.shape.Kind.{Kind}
use Rattle.layout.specs.declared.shape.Kind.TheVariants.{Nothing, Point, Circle, Ellipse, Polygon, AltitudePoint, AltitudeEllipsoid, Arc}
use Rattle.layout.specs.declared.shape.Shape.{Shape}
use Rattle.layout.specs.Layout.{MessageField, Row, shape_rows, type_of}
use Rattle.layout.specs.Layout as layout
use Rattle.layout.specs.Rows.{length_of, message}
use Rattle.layout.specs.Demands.{TypeKnown, InFields}
use Rattle.layout.specs.Shapes.{rows_of, value_of, zero_latitude, zero_longitude}
use Rattle.layout.proofs.TidyLaws.{message-length}
use Rattle.layout.proofs.KindLaws.{type-small}
use Rattle.layout.proofs.PolygonLaws.{polygon-length}
use Rattle.layout.proofs.MessageLaws.{Position, position_octets, point_octets, point-message, circle-message, ellipse-message, altitude-point-message, ellipsoid-message, arc-message, polygon-message}
use Rattle.octets.specs.Codes.{position}
use Rattle.limits.proofs.LimitLaws.{points-within}
use Rattle.composing.specs.Composing.{positions, rest, ShapeStorable}

-- ---- runs of stores

-- a run from the first octet on is a message before the other octets
pub run-stored : (rows : List Row) (value : MessageField → ℕ) (o m : List ℕ) → message rows value ≡ m → length_of rows ≤ length o → sets o 0 m ≡ message rows value ++ drop (length_of rows) o
run-stored rows value o m e h =
    let l : length m ≡ length_of rows = ap length (sym e) ∙ message-length rows value in
    sets-eq m o 0 (omega arith) ∙ ap (λ (k : ℕ). m ++ drop k o) (zero-add (length m) ∙ l) ∙ ap (λ (v : List ℕ). v ++ drop (length_of rows) o) (sym e)

-- ---- a polygon's points

module _ (latitudes : List LatitudeCode) (longitudes : List LongitudeCode) where
  length-positions : (n : ℕ) → length (positions latitudes longitudes n) ≡ 6 * n
  length-positions zero = refl
  length-positions (suc n) = length-append (positions latitudes longitudes n) (position (get_or latitudes n zero_latitude) (get_or longitudes n zero_longitude)) ∙ omega (arith, length-positions n)

  -- one point more
  pub more : (o : List ℕ) (n : ℕ) → sets (sets o 1 (positions latitudes longitudes n)) (1 + 6 * n) (position (get_or latitudes n zero_latitude) (get_or longitudes n zero_longitude)) ≡ sets o 1 (positions latitudes longitudes (n + 1))
  more o n =
      let p = position (get_or latitudes n zero_latitude) (get_or longitudes n zero_longitude) in
      ap (λ (k : ℕ). sets (sets o 1 (positions latitudes longitudes n)) (1 + k) p) (sym (length-positions n)) ∙ sets-append o 1 (positions latitudes longitudes n) p ∙ rw (add-one n)

module _ (x : Shape) where
  -- the layout's points from the first on are the points up to the last
  last : (i n : ℕ) → point_octets (value_of x) i (suc n) ≡ point_octets (value_of x) i n ++ position_octets (value_of x) (suc (i + n))
  last i zero = ap (λ (k : ℕ). position_octets (value_of x) (suc k)) (sym (add-zero i))
  last i (suc n) =
      let e : suc i + n ≡ i + suc n = omega arith in
      ap (λ (l : List ℕ). position_octets (value_of x) (suc i) ++ l) (last (suc i) n ∙ ap (λ (k : ℕ). point_octets (value_of x) (suc i) n ++ position_octets (value_of x) (suc k)) e)

  points-same : (n : ℕ) → point_octets (value_of x) 0 n ≡ positions x.latitudes x.longitudes n
  points-same zero = refl
  points-same (suc n) =
      last 0 n ∙ ap (λ (k : ℕ). point_octets (value_of x) 0 n ++ position_octets (value_of x) (suc k)) (zero-add n)
      ∙ ap (λ (l : List ℕ). l ++ position (get_or x.latitudes n zero_latitude) (get_or x.longitudes n zero_longitude)) (points-same n)

  -- ---- the messages

  abbrev Fields : Kind → Type 0
  Fields k = InFields (shape_rows k x.count) (value_of x)

  starts : (k : Kind) → (k ≡ Polygon → ⊥) → TypeKnown (shape_rows k x.count) → Fields k → Position (value_of x) 0
  starts Nothing o l h = absurd (omega arith)
  starts Point o l h = record { sign = h.each (layout.south 0); size = h.each (layout.latitude 0); turn = h.each (layout.longitude 0) }
  starts Circle o l h = record { sign = h.each (layout.south 0); size = h.each (layout.latitude 0); turn = h.each (layout.longitude 0) }
  starts Ellipse o l h = record { sign = h.each (layout.south 0); size = h.each (layout.latitude 0); turn = h.each (layout.longitude 0) }
  starts Polygon o l h = absurd (o refl)
  starts AltitudePoint o l h = record { sign = h.each (layout.south 0); size = h.each (layout.latitude 0); turn = h.each (layout.longitude 0) }
  starts AltitudeEllipsoid o l h = record { sign = h.each (layout.south 0); size = h.each (layout.latitude 0); turn = h.each (layout.longitude 0) }
  starts Arc o l h = record { sign = h.each (layout.south 0); size = h.each (layout.latitude 0); turn = h.each (layout.longitude 0) }

  abbrev fixed_octets : Kind → List ℕ
  fixed_octets k = (16 * type_of x.kind) ∷ (position x.latitude x.longitude ++ rest k x)

  started-message : (k : Kind) → (k ≡ Polygon → ⊥) → TypeKnown (shape_rows k x.count) → Fields k → Position (value_of x) 0 → message (shape_rows k x.count) (value_of x) ≡ fixed_octets k
  started-message Nothing o l h p = absurd (omega arith)
  started-message Point o l h p = point-message (value_of x) x.count (type-small x.kind) p
  started-message Circle o l h p = circle-message (value_of x) x.count (type-small x.kind) p (h.each layout.uncertainty)
  started-message Ellipse o l h p = ellipse-message (value_of x) x.count (type-small x.kind) p (h.each layout.semi_major) (h.each layout.semi_minor) (h.each layout.orientation) (h.each layout.confidence)
  started-message Polygon o l h p = absurd (o refl)
  started-message AltitudePoint o l h p = altitude-point-message (value_of x) x.count (type-small x.kind) p (h.each layout.depth) (h.each layout.altitude)
  started-message AltitudeEllipsoid o l h p =
      ellipsoid-message (value_of x) x.count (type-small x.kind) p (h.each layout.depth) (h.each layout.altitude) (h.each layout.semi_major) (h.each layout.semi_minor) (h.each layout.orientation) (h.each layout.altitude_uncertainty) (h.each layout.confidence)
  started-message Arc o l h p =
      arc-message (value_of x) x.count (type-small x.kind) p (h.each layout.inner_radius) (h.each layout.uncertainty) (h.each layout.offset) (h.each layout.included) (h.each layout.confidence)

  module _ (room : ℕ) (s : ShapeStorable x room) where
    -- a kind with one position
    module _ (other : x.kind ≡ Polygon → ⊥) where
      pub start-within : Position (value_of x) 0
      start-within = starts x.kind other s.listed s.fields

      pub fixed-message : message (rows_of x) (value_of x) ≡ fixed_octets x.kind
      fixed-message = started-message x.kind other s.listed s.fields start-within

      pub start-room : 7 ≤ room
      start-room = omega (arith, s.fits, message-length (rows_of x) (value_of x), ap length fixed-message)

    -- a polygon
    module _ (e : x.kind ≡ Polygon) where
      fields : Fields Polygon
      fields = subst Fields e s.fields

      pub points-message : message (rows_of x) (value_of x) ≡ (16 * type_of x.kind + x.count) ∷ positions x.latitudes x.longitudes x.count
      points-message =
          subst (λ (k : Kind). message (shape_rows k x.count) (value_of x) ≡ (16 * type_of x.kind + x.count) ∷ positions x.latitudes x.longitudes x.count) (sym e)
          (polygon-message (value_of x) x.count (type-small x.kind) (fields.each layout.count) each-point ∙ ap (λ (l : List ℕ). (16 * type_of x.kind + x.count) ∷ l) (points-same x.count))
        where
          each-point : (j : ℕ) → 0 < j → j ≤ x.count → Position (value_of x) j
          each-point zero a b = absurd (omega arith)
          each-point (suc i) a b = points-within Polygon x.count (value_of x) fields i b

      pub polygon-room : 1 + 6 * x.count ≤ room
      polygon-room = rw polygon-length at (subst (λ (k : Kind). length_of (shape_rows k x.count) ≤ room) e s.fits)
