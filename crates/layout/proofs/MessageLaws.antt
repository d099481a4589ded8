-- The octets of each shape's message, in their order, where its numbers are in their fields.
use Prim.Native.Nat.{ℕ, zero, suc, ◌+◌, ◌-◌, ◌*◌, ◌%◌, ◌≤◌, ◌<◌}
use mathlib.Core.Path.{◌≡◌, ap, sym, ◌∙◌}
use mathlib.Core.List.{List, [], ◌∷◌, ◌++◌, append_assoc, append-nil}
use native.Mathlib.Omega.{arith}
use native.Mathlib.Nat.{add-zero}
use lib.ListN.{length}
use Rattle.octets.specs.Bits.{octets}
use Rattle.octets.proofs.OctetLaws.{octets-one, octets-two, octets-three}
use Rattle.layout.specs.declared.shape.Kind.TheVariants.{Point, Circle, Ellipse, Polygon, AltitudePoint, AltitudeEllipsoid, Arc}
use Rattle.layout.specs.Layout.{MessageField, Row, start, points, shape_rows}
use Rattle.layout.specs.Layout as layout
use Rattle.layout.specs.Rows.{packed, message}
use Rattle.layout.proofs.PolygonLaws.{next, polygon-length}

-- ---- octets after octets

abbrev Octets : List ℕ → Type 0
Octets [] = Unit {0}
Octets (v ∷ vs) = (v < 256) × Octets vs

abbrev after : ℕ → List ℕ → ℕ
after a [] = a
after a (v ∷ vs) = after (a * 256 + v) vs

octets-more : (n a : ℕ) (vs : List ℕ) → Octets vs → octets (n + length vs) (after a vs) ≡ octets n a ++ vs
octets-more n a [] h = ap (λ (k : ℕ). octets k a) (add-zero n) ∙ sym (append-nil (octets n a))
octets-more n a (v ∷ vs) h =
    let e : n + suc (length vs) ≡ suc n + length vs = omega arith in
    ap (λ (k : ℕ). octets k (after (a * 256 + v) vs)) e
    ∙ octets-more (suc n) (a * 256 + v) vs h.1
    ∙ ap (λ (l : List ℕ). l ++ vs) (octets-one n a v h.0)
    ∙ append_assoc (octets n a) (v ∷ []) vs

-- ---- the start that all but a polygon have

module _ (value : MessageField → ℕ) where
  -- S and N of a position, as one number
  abbrev pub latitude_number : ℕ → ℕ
  latitude_number i = value (layout.south i) * 8388608 + value (layout.latitude i)

  abbrev pub position_octets : ℕ → List ℕ
  position_octets i = octets 3 (latitude_number i) ++ octets 3 (value (layout.longitude i))

  abbrev pub start_octets : List ℕ
  start_octets = (16 * value layout.type_number) ∷ position_octets 0

  abbrev pub level_octets : List ℕ
  level_octets = octets 2 (value layout.depth * 32768 + value layout.altitude)

  pub record Position (i : ℕ) : Type 0 where
    pub sign : value (layout.south i) < 2
    pub size : value (layout.latitude i) < 8388608
    pub turn : value (layout.longitude i) < 16777216

  abbrev number : Row → ℕ
  number r = value r.field

  abbrev so_far : ℕ
  so_far = packed number 0 0 start

  start-message : value layout.type_number < 16 → Position 0 → octets 7 so_far ≡ start_octets
  start-message t p =
      let e : so_far ≡ (16 * value layout.type_number * 16777216 + latitude_number 0) * 16777216 + value (layout.longitude 0) = omega arith in
      let m : 16 * value layout.type_number % 256 ≡ 16 * value layout.type_number = omega arith in
      rw e
      (octets-three 4 (16 * value layout.type_number * 16777216 + latitude_number 0) (value (layout.longitude 0)) p.turn
      ∙ ap (λ (l : List ℕ). l ++ octets 3 (value (layout.longitude 0))) (octets-three 1 (16 * value layout.type_number) (latitude_number 0) (omega (arith, p.sign, p.size)))
      ∙ rw m)

  -- ---- each type: the start, and the octets after it

  module _ (n : ℕ) (t : value layout.type_number < 16) (p : Position 0) where
    more : (vs : List ℕ) → Octets vs → octets (7 + length vs) (after so_far vs) ≡ start_octets ++ vs
    more vs h = octets-more 7 so_far vs h ∙ ap (λ (l : List ℕ). l ++ vs) (start-message t p)

    pub point-message : message (shape_rows Point n) value ≡ start_octets
    point-message = start-message t p

    pub circle-message : value layout.uncertainty < 128 → message (shape_rows Circle n) value ≡ start_octets ++ (value layout.uncertainty ∷ [])
    circle-message h = more (value layout.uncertainty ∷ []) (omega arith, tt)

    pub ellipse-message : value layout.semi_major < 128 → value layout.semi_minor < 128 → value layout.orientation < 256 → value layout.confidence < 128
        → message (shape_rows Ellipse n) value ≡ start_octets ++ (value layout.semi_major ∷ value layout.semi_minor ∷ value layout.orientation ∷ value layout.confidence ∷ [])
    ellipse-message a b c d = more (value layout.semi_major ∷ value layout.semi_minor ∷ value layout.orientation ∷ value layout.confidence ∷ []) (omega arith, (omega arith, (c, (omega arith, tt))))

    -- two octets after the start, and octets after those
    word_more : (w : ℕ) (vs : List ℕ) → w < 65536 → Octets vs → octets (9 + length vs) (after (so_far * 65536 + w) vs) ≡ start_octets ++ (octets 2 w ++ vs)
    word_more w vs l h =
        octets-more 9 (so_far * 65536 + w) vs h
        ∙ ap (λ (l : List ℕ). l ++ vs) (octets-two 7 so_far w l ∙ ap (λ (l : List ℕ). l ++ octets 2 w) (start-message t p))
        ∙ append_assoc start_octets (octets 2 w) vs

    level : value layout.depth < 2 → value layout.altitude < 32768 → (so_far * 2 + value layout.depth) * 32768 + value layout.altitude ≡ so_far * 65536 + (value layout.depth * 32768 + value layout.altitude)
    level a b = omega arith

    pub altitude-point-message : value layout.depth < 2 → value layout.altitude < 32768 → message (shape_rows AltitudePoint n) value ≡ start_octets ++ level_octets
    altitude-point-message a b =
        ap (octets 9) (level a b) ∙ word_more (value layout.depth * 32768 + value layout.altitude) [] (omega arith) tt ∙ ap (λ (l : List ℕ). start_octets ++ l) (append-nil level_octets)

    pub ellipsoid-message : value layout.depth < 2 → value layout.altitude < 32768 → value layout.semi_major < 128 → value layout.semi_minor < 128 → value layout.orientation < 256 → value layout.altitude_uncertainty < 128 → value layout.confidence < 128
        → message (shape_rows AltitudeEllipsoid n) value ≡ start_octets ++ (level_octets ++ (value layout.semi_major ∷ value layout.semi_minor ∷ value layout.orientation ∷ value layout.altitude_uncertainty ∷ value layout.confidence ∷ []))
    ellipsoid-message a b c d e f g =
        ap (λ (k : ℕ). octets 14 (after k (value layout.semi_major ∷ value layout.semi_minor ∷ value layout.orientation ∷ value layout.altitude_uncertainty ∷ value layout.confidence ∷ []))) (level a b)
        ∙ word_more (value layout.depth * 32768 + value layout.altitude) (value layout.semi_major ∷ value layout.semi_minor ∷ value layout.orientation ∷ value layout.altitude_uncertainty ∷ value layout.confidence ∷ []) (omega arith)
        (omega arith, (omega arith, (e, (omega arith, (omega arith, tt)))))

    pub arc-message : value layout.inner_radius < 65536 → value layout.uncertainty < 128 → value layout.offset < 256 → value layout.included < 256 → value layout.confidence < 128
        → message (shape_rows Arc n) value ≡ start_octets ++ (octets 2 (value layout.inner_radius) ++ (value layout.uncertainty ∷ value layout.offset ∷ value layout.included ∷ value layout.confidence ∷ []))
    arc-message a b c d e = word_more (value layout.inner_radius) (value layout.uncertainty ∷ value layout.offset ∷ value layout.included ∷ value layout.confidence ∷ []) a (omega arith, (c, (d, (omega arith, tt))))

  -- ---- a polygon: its first octet, and six octets for each point

  abbrev pub point_octets : ℕ → ℕ → List ℕ
  point_octets i zero = []
  point_octets i (suc n) = position_octets (suc i) ++ point_octets (suc i) n

  position-more : (n a i : ℕ) → Position i → octets (n + 6) ((a * 16777216 + latitude_number i) * 16777216 + value (layout.longitude i)) ≡ octets n a ++ position_octets i
  position-more n a i p =
      let six : n + 6 ≡ suc (suc (suc (suc (suc (suc n))))) = omega arith in
      ap (λ (k : ℕ). octets k ((a * 16777216 + latitude_number i) * 16777216 + value (layout.longitude i))) six
      ∙ octets-three (suc (suc (suc n))) (a * 16777216 + latitude_number i) (value (layout.longitude i)) p.turn
      ∙ ap (λ (l : List ℕ). l ++ octets 3 (value (layout.longitude i))) (octets-three n a (latitude_number i) (omega (arith, p.sign, p.size)))
      ∙ append_assoc (octets n a) (octets 3 (latitude_number i)) (octets 3 (value (layout.longitude i)))

  point-packed : (a i n : ℕ) → packed number a (8 + 48 * i) (points i (suc n)) ≡ packed number ((a * 16777216 + latitude_number (suc i)) * 16777216 + value (layout.longitude (suc i))) (8 + 48 * suc i) (points (suc i) n)
  point-packed a i n =
      let x : 8 + 48 * i + 1 - (8 + 48 * i) ≡ 1 = omega arith in
      let y : 8 + 48 * i + 1 + 23 - (8 + 48 * i + 1) ≡ 23 = omega arith in
      let z : 8 + 48 * i + 24 + 24 - (8 + 48 * i + 1 + 23) ≡ 24 = omega arith in
      let e : (a * 2 + value (layout.south (suc i))) * 8388608 + value (layout.latitude (suc i)) ≡ a * 16777216 + latitude_number (suc i) = omega arith in
      rw (x, y, z, e, next i)

  points-message : (m a i n : ℕ) → ((j : ℕ) → i < j → j ≤ i + n → Position j) → octets (m + 6 * n) (packed number a (8 + 48 * i) (points i n)) ≡ octets m a ++ point_octets i n
  points-message m a i zero p =
      let none : m + 6 * 0 ≡ m = omega arith in
      ap (λ (k : ℕ). octets k a) none ∙ sym (append-nil (octets m a))
  points-message m a i (suc n) p =
      let e : m + 6 * suc n ≡ m + 6 + 6 * n = omega arith in
      ap (λ (k : ℕ). octets k (packed number a (8 + 48 * i) (points i (suc n)))) e
      ∙ ap (octets (m + 6 + 6 * n)) (point-packed a i n)
      ∙ points-message (m + 6) _ (suc i) n (λ j h l. p j (omega arith) (omega arith))
      ∙ ap (λ (l : List ℕ). l ++ point_octets (suc i) n) (position-more m a (suc i) (p (suc i) (omega arith) (omega arith)))
      ∙ append_assoc (octets m a) (position_octets (suc i)) (point_octets (suc i) n)

  pub polygon-message : (n : ℕ) → value layout.type_number < 16 → value layout.count < 16 → ((j : ℕ) → 0 < j → j ≤ n → Position j) → message (shape_rows Polygon n) value ≡ (16 * value layout.type_number + value layout.count) ∷ point_octets 0 n
  polygon-message n t c p =
      let e : (0 * 16 + value layout.type_number) * 16 + value layout.count ≡ 16 * value layout.type_number + value layout.count = omega arith in
      let m : (16 * value layout.type_number + value layout.count) % 256 ≡ 16 * value layout.type_number + value layout.count = omega arith in
      ap (λ (k : ℕ). octets k (packed number 0 0 (shape_rows Polygon n))) (polygon-length n)
      ∙ points-message 1 ((0 * 16 + value layout.type_number) * 16 + value layout.count) 0 n (λ j h l. p j h (omega arith))
      ∙ rw (e, m)
