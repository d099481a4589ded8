-- A shape's record and the numbers of its fields: each gives the other back.
use Prim.Native.Nat.{ℕ, zero, suc, ◌^◌, ◌≤◌, ◌<◌}
use mathlib.Core.Path.{◌≡◌, refl, ap, sym, ◌∙◌}
use mathlib.Core.Bool.{Bool, true, false}
use mathlib.Core.List.{List, [], ◌∷◌}
use native.Mathlib.Omega.{arith}
use lib.Dec.{ltb}
use lib.ListN.{length, get_or, length-append, get_or-append, get_or-eq_default}
use lib.Seq.{get_or_at, ext_get_or}
use borrow.Author.Tests.{ltb-true, ltb-false}
use Rattle.ground.specs.declared.code.LatitudeCode.{LatitudeCode}
use Rattle.ground.specs.declared.code.LongitudeCode.{LongitudeCode}
use Rattle.octets.specs.Codes.{bit_of, sign_of, complement, from_complement}
use Rattle.octets.proofs.ComplementLaws.{complement-again, complement-back}
use Rattle.layout.specs.declared.shape.Kind.{Kind}
use Rattle.layout.specs.declared.shape.Shape.{Shape}
use Rattle.layout.specs.Layout.{MessageField, type_of}
use Rattle.layout.specs.Layout as layout
use Rattle.layout.specs.Shapes.{upto, latitude_of, longitude_of, shape_of, value_of, zero_latitude, zero_longitude, Fifteen}
use Rattle.layout.proofs.WidthLaws.{shape_widest}

-- ---- signs and lists

pub sign-back : (b : Bool) → sign_of (bit_of b) ≡ b
sign-back true = refl
sign-back false = refl

pub bit-back : (n : ℕ) → n < 2 → bit_of (sign_of n) ≡ n
bit-back zero h = refl
bit-back (suc zero) h = refl
bit-back (suc (suc n)) h = absurd (omega arith)

module _ {A : Type 0} (f : ℕ → A) where
  pub length-upto : (n : ℕ) → length (upto n f) ≡ n
  length-upto zero = refl
  length-upto (suc n) = length-append (upto n f) (f n ∷ []) ∙ omega (arith, length-upto n)

  last-or-before : (n i : ℕ) (z : A) → i < suc n → (i < n → get_or (upto n f) i z ≡ f i) → (b : Bool) → ltb i n ≡ b → get_or (upto (suc n) f) i z ≡ f i
  last-or-before n i z h before true e =
      let l : i < n = ltb-true i n e in
      get_or-append (upto n f) (f n ∷ []) z i (omega (arith, length-upto n)) ∙ before l
  last-or-before n i z h before false e =
      let l : n ≤ i = ltb-false i n e in
      let d : i ≡ n = omega arith in
      get_or_at (upto n f) (f n) [] z i (length-upto n ∙ sym d) ∙ ap f (sym d)

  -- element i of n
  pub at-upto : (n i : ℕ) (z : A) → i < n → get_or (upto n f) i z ≡ f i
  at-upto zero i z h = absurd (omega arith)
  at-upto (suc n) i z h = last-or-before n i z h (at-upto n i z) (ltb i n) refl

  -- n elements are a list's where each is
  pub upto-list : (n : ℕ) (l : List A) (z : A) → length l ≡ n → ((i : ℕ) → i < n → f i ≡ get_or l i z) → upto n f ≡ l
  upto-list n l z e same =
      ext_get_or z (upto n f) l (length-upto n ∙ sym e) (λ i h. at-upto n i z (rw (length-upto n) at h) ∙ same i (rw (length-upto n) at h))

-- ---- the record of numbers has those numbers

module _ (k : Kind) (value : MessageField → ℕ) (type-number : type_of k ≡ value layout.type_number) (codes : (f : MessageField) → value f < 2 ^ shape_widest f)
    (none : (i : ℕ) → 15 ≤ i → (value (layout.south (suc i)) ≡ 0) × (value (layout.latitude (suc i)) ≡ 0) × (value (layout.longitude (suc i)) ≡ 0)) where
  latitudes : List LatitudeCode
  latitudes = upto 15 (λ i. latitude_of value (suc i))

  longitudes : List LongitudeCode
  longitudes = upto 15 (λ i. longitude_of value (suc i))

  -- the point i, of the fifteen or not
  latitude-at : (i : ℕ) (b : Bool) → ltb i 15 ≡ b → get_or latitudes i zero_latitude ≡ latitude_of value (suc i)
  unfolding latitudes
  latitude-at i true e = at-upto (λ i. latitude_of value (suc i)) 15 i zero_latitude (ltb-true i 15 e)
  latitude-at i false e =
      let l : 15 ≤ i = ltb-false i 15 e in
      get_or-eq_default latitudes zero_latitude {n = i} (omega (arith, length-upto (λ i. latitude_of value (suc i)) 15))
      ∙ (λ j. record { 0 = sign_of (sym (none i l).0 j); 1 = sym (none i l).1 j })

  longitude-at : (i : ℕ) (b : Bool) → ltb i 15 ≡ b → get_or longitudes i zero_longitude ≡ longitude_of value (suc i)
  unfolding longitudes from_complement
  longitude-at i true e = at-upto (λ i. longitude_of value (suc i)) 15 i zero_longitude (ltb-true i 15 e)
  longitude-at i false e =
      let l : 15 ≤ i = ltb-false i 15 e in
      get_or-eq_default longitudes zero_longitude {n = i} (omega (arith, length-upto (λ i. longitude_of value (suc i)) 15))
      ∙ (λ j. record { 0 = from_complement (sym (none i l).2 j) })

  unused : (f : MessageField) → value f < 1 → 0 ≡ value f
  unused f h = omega arith

  pub values_of : (f : MessageField) → value_of (shape_of k value) f ≡ value f
  unfolding latitudes longitudes
  values_of layout.type_number = type-number
  values_of layout.count = refl
  values_of (layout.south zero) = bit-back (value (layout.south 0)) (codes (layout.south 0))
  values_of (layout.south (suc i)) = ap (λ (c : LatitudeCode). bit_of c.0) (latitude-at i (ltb i 15) refl) ∙ bit-back (value (layout.south (suc i))) (codes (layout.south (suc i)))
  values_of (layout.latitude zero) = refl
  values_of (layout.latitude (suc i)) = ap (λ (c : LatitudeCode). c.1) (latitude-at i (ltb i 15) refl)
  values_of (layout.longitude zero) = complement-again (value (layout.longitude 0)) (codes (layout.longitude 0))
  values_of (layout.longitude (suc i)) = ap (λ (c : LongitudeCode). complement c.0) (longitude-at i (ltb i 15) refl) ∙ complement-again (value (layout.longitude (suc i))) (codes (layout.longitude (suc i)))
  values_of layout.depth = bit-back (value layout.depth) (codes layout.depth)
  values_of layout.altitude = refl
  values_of layout.uncertainty = refl
  values_of layout.semi_major = refl
  values_of layout.semi_minor = refl
  values_of layout.orientation = refl
  values_of layout.altitude_uncertainty = refl
  values_of layout.confidence = refl
  values_of layout.inner_radius = refl
  values_of layout.offset = refl
  values_of layout.included = refl
  values_of layout.bearing = unused layout.bearing (codes layout.bearing)
  values_of layout.horizontal_speed = unused layout.horizontal_speed (codes layout.horizontal_speed)
  values_of layout.down = unused layout.down (codes layout.down)
  values_of layout.vertical_speed = unused layout.vertical_speed (codes layout.vertical_speed)
  values_of layout.speed_uncertainty = unused layout.speed_uncertainty (codes layout.speed_uncertainty)
  values_of layout.vertical_uncertainty = unused layout.vertical_uncertainty (codes layout.vertical_uncertainty)

-- ---- the record of a record's numbers is that record

module _ (x : Shape) (fifteen : Fifteen x) (codes : (f : MessageField) → value_of x f < 2 ^ shape_widest f) where
  latitude-same : (i : ℕ) → latitude_of (value_of x) (suc i) ≡ get_or x.latitudes i zero_latitude
  latitude-same i = λ j. record { 0 = sign-back (get_or x.latitudes i zero_latitude).0 j; 1 = (get_or x.latitudes i zero_latitude).1 }

  longitude-same : (i : ℕ) → longitude_of (value_of x) (suc i) ≡ get_or x.longitudes i zero_longitude
  longitude-same i = λ j. record { 0 = complement-back (get_or x.longitudes i zero_longitude).0 (codes (layout.longitude (suc i))) j }

  pub shape-of-values : shape_of x.kind (value_of x) ≡ x
  shape-of-values = λ j. record {
    kind = x.kind;
    latitude = record { 0 = sign-back x.latitude.0 j; 1 = x.latitude.1 };
    longitude = record { 0 = complement-back x.longitude.0 (codes (layout.longitude 0)) j };
    altitude = record { 0 = sign-back x.altitude.0 j; 1 = x.altitude.1 };
    uncertainty = x.uncertainty;
    semi_major = x.semi_major;
    semi_minor = x.semi_minor;
    orientation = x.orientation;
    altitude_uncertainty = x.altitude_uncertainty;
    confidence = x.confidence;
    inner_radius = x.inner_radius;
    offset = x.offset;
    included = x.included;
    count = x.count;
    latitudes = upto-list (λ i. latitude_of (value_of x) (suc i)) 15 x.latitudes zero_latitude fifteen.all_latitudes (λ i h. latitude-same i) j;
    longitudes = upto-list (λ i. longitude_of (value_of x) (suc i)) 15 x.longitudes zero_longitude fifteen.all_longitudes (λ i h. longitude-same i) j;
  }
