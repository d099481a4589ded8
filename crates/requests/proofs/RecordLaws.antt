-- The record of a kind with the wanted codes is one that the writer takes.
use Prim.Native.Nat.{ℕ, zero, suc, ◌^◌, ◌<◌}
use mathlib.Core.Path.{◌≡◌, refl, sym, ap, ◌∙◌, subst}
use mathlib.Core.Bool.{Bool, true, false, cond, ◌&&◌}
use mathlib.Core.List.{List, [], ◌∷◌}
use native.Mathlib.Omega.{arith}
use lib.Dec.{eqb}
use lib.IntN.{ℤ, pos, negsuc}
use lib.Signed.{mag}
use borrow.Author.Tests.{eqb-true, eqb-false, lt-ltb}
use Rattle.ground.specs.declared.code.AltitudeCode.{AltitudeCode}
use Rattle.ground.specs.declared.code.LatitudeCode.{LatitudeCode}
use Rattle.ground.specs.declared.code.LongitudeCode.{LongitudeCode}
use Rattle.octets.specs.Codes.{bit_of, sign_of, complement, from_complement}
use Rattle.octets.proofs.ComplementLaws.{complement-back}
use Rattle.layout.specs.declared.shape.Kind.{Kind}
use Rattle.layout.specs.declared.shape.Kind.TheVariants.{AltitudePoint, AltitudeEllipsoid}
use Rattle.layout.specs.Layout.{MessageField, Row, shape_rows, type_of}
use Rattle.layout.specs.Layout as layout
use Rattle.layout.specs.Rows.{tag, width_of}
use Rattle.layout.specs.Demands.{TypeKnown, Sound}
use Rattle.layout.specs.Shapes.{rows_of, value_of, latitude_of, longitude_of, Fifteen}
use Rattle.layout.proofs.FieldLaws.{tag_one}
use Rattle.layout.proofs.KindLaws.{type-small}
use Rattle.layout.proofs.TidyLaws.{both}
use Rattle.layout.proofs.ShapeRecords.{sign-back, length-upto, values_of}
use Rattle.layout.proofs.WidthLaws.{shape_widest}
use Rattle.requests.specs.declared.codes.Wanted.{Wanted}
use Rattle.requests.specs.Choice.{TakesPart}
use Rattle.requests.specs.Codes.{altitude_or_0, Tame, wanted_number, row_number, wanted_record}
use Rattle.requests.proofs.KindLaws.{by_kind, part-rows}

-- ---- a kind that takes part has for each field no row, or one of all the bits that the field has in any shape

abbrev full : List Row → Bool
full [] = true
full (r ∷ rs) = eqb r.width (shape_widest r.field) && full rs

full_by : (b : Bool) (f g : MessageField) (w v : ℕ) → (b ≡ true → f ≡ g) → w ≡ shape_widest g → ((v ≡ 0 → ⊥) → v ≡ shape_widest f) → (cond b w v ≡ 0 → ⊥) → cond b w v ≡ shape_widest f
full_by true f g w v same e rest some = e ∙ ap shape_widest (sym (same refl))
full_by false f g w v same e rest some = rest some

full-width : (rs : List Row) → full rs ≡ true → (f : MessageField) → (width_of rs f ≡ 0 → ⊥) → width_of rs f ≡ shape_widest f
full-width [] h f some = absurd (some refl)
full-width (r ∷ rs) h f some =
    let b = both _ _ h in
    full_by (eqb (tag f) (tag r.field)) f r.field _ _ (λ e. tag_one f r.field (eqb-true _ _ e)) (eqb-true _ _ b.0) (full-width rs b.1 f) some

part-full : (k : Kind) → TakesPart k → full (shape_rows k 0) ≡ true
part-full = by_kind (λ k. full (shape_rows k 0) ≡ true) refl refl refl refl refl

part-listed : (k : Kind) → TakesPart k → TypeKnown (shape_rows k 0)
part-listed = by_kind (λ k. TypeKnown (shape_rows k 0)) (omega arith) (omega arith) (omega arith) (omega arith) (omega arith)

part-uncounted : (k : Kind) → TakesPart k → width_of (shape_rows k 0) layout.count ≡ 0
part-uncounted = by_kind (λ k. width_of (shape_rows k 0) layout.count ≡ 0) refl refl refl refl refl

-- ---- each number has the bits of its field

sign_small : (b : Bool) → bit_of b < 2
sign_small true = omega arith
sign_small false = omega arith

turn_small : (z : ℤ) → mag z < 8388608 → complement z < 16777216
turn_small (pos n) h = rw (lt-ltb n 8388608 h) (omega arith)
turn_small (negsuc n) h = rw (lt-ltb n 8388608 h) (omega arith)

no_row : (b : Bool) → ◌≡◌ {A = ℕ} (cond b 0 0) 0
no_row true = refl
no_row false = refl

at_most : (b : Bool) (n most : ℕ) → n < most → cond b 0 n < most
at_most true n most h = omega arith
at_most false n most h = h

module _ (k : Kind) (w : Wanted) (part : TakesPart k) (t : Tame w) where
  number_small : (f : MessageField) → wanted_number k w f < 2 ^ shape_widest f
  number_small layout.type_number = type-small k
  number_small (layout.south zero) = sign_small w.latitude.0
  number_small (layout.south (suc i)) = omega arith
  number_small (layout.latitude zero) = t.latitudes
  number_small (layout.latitude (suc i)) = omega arith
  number_small (layout.longitude zero) = turn_small w.longitude.0 t.longitudes
  number_small (layout.longitude (suc i)) = omega arith
  number_small layout.depth = sign_small (altitude_or_0 w.altitude).0
  number_small layout.altitude = t.altitudes
  number_small layout.uncertainty = t.majors
  number_small layout.semi_major = t.majors
  number_small layout.semi_minor = t.minors
  number_small layout.orientation = omega (arith, t.orientations)
  number_small layout.altitude_uncertainty = t.heights
  number_small layout.confidence = omega (arith, t.confidences)
  number_small layout.count = omega arith
  number_small layout.inner_radius = omega arith
  number_small layout.offset = omega arith
  number_small layout.included = omega arith
  number_small layout.bearing = omega arith
  number_small layout.horizontal_speed = omega arith
  number_small layout.down = omega arith
  number_small layout.vertical_speed = omega arith
  number_small layout.speed_uncertainty = omega arith
  number_small layout.vertical_uncertainty = omega arith

  -- the kind has no row for it
  abbrev none : MessageField → Bool
  none f = eqb (width_of (shape_rows k 0) f) 0

  row_below : (f : MessageField) (most : ℕ) → wanted_number k w f < most → row_number k w f < most
  row_below f most = at_most (none f) (wanted_number k w f) most

  in_row : (f : MessageField) (b : Bool) → none f ≡ b → cond b 0 (wanted_number k w f) < 2 ^ width_of (shape_rows k 0) f
  in_row f true e = rw (eqb-true (width_of (shape_rows k 0) f) 0 e) (omega arith)
  in_row f false e = rw (full-width (shape_rows k 0) (part-full k part) f (eqb-false (width_of (shape_rows k 0) f) 0 e)) (number_small f)

  own-type : type_of k ≡ row_number k w layout.type_number
  own-type = by_kind (λ j. type_of j ≡ row_number j w layout.type_number) refl refl refl refl refl k part

  -- ---- the record's numbers are these

  pub record-values : (f : MessageField) → value_of (wanted_record k w) f ≡ row_number k w f
  record-values = values_of k (row_number k w) own-type (λ f. row_below f _ (number_small f)) (λ i h. (no_row (none (layout.south (suc i))), no_row (none (layout.latitude (suc i))), no_row (none (layout.longitude (suc i)))))

  pub record-rows : rows_of (wanted_record k w) ≡ shape_rows k 0
  record-rows = part-rows k part (row_number k w layout.count)

  sound-rows : Sound (shape_rows k 0) (row_number k w)
  sound-rows = record {
    listed = part-listed k part;
    counted = record { least = λ u. absurd (omega (arith, part-uncounted k part)); most = λ u. absurd (omega (arith, part-uncounted k part)) };
    angles = record {
      orientations = λ u. row_below layout.orientation 180 t.orientations;
      offsets = λ u. row_below layout.offset 180 (omega arith);
      includeds = λ u. row_below layout.included 180 (omega arith);
      bearings = λ u. row_below layout.bearing 360 (omega arith);
    };
    sure = record { confidences = λ u. row_below layout.confidence 101 t.confidences };
    fields = record { each = λ f. in_row f _ refl };
  }

  pub record-sound : Sound (rows_of (wanted_record k w)) (value_of (wanted_record k w))
  record-sound =
      subst (λ (rows : List Row). Sound rows (value_of (wanted_record k w))) (sym record-rows)
      (subst (λ (v : MessageField → ℕ). Sound (shape_rows k 0) v) (λ i f. sym (record-values f) i) sound-rows)

  pub record-whole : Fifteen (wanted_record k w)
  record-whole = record { all_latitudes = length-upto (λ i. latitude_of (row_number k w) (suc i)) 15; all_longitudes = length-upto (λ i. longitude_of (row_number k w) (suc i)) 15 }

  -- ---- its codes are the wanted ones

  same-latitude : ◌≡◌ {A = LatitudeCode} (record { 0 = sign_of (bit_of w.latitude.0); 1 = w.latitude.1 }) w.latitude
  same-latitude = λ j. record { 0 = sign-back w.latitude.0 j; 1 = w.latitude.1 }

  pub record-latitude : (wanted_record k w).latitude ≡ w.latitude
  record-latitude = by_kind (λ j. (wanted_record j w).latitude ≡ w.latitude) same-latitude same-latitude same-latitude same-latitude same-latitude k part

  same-longitude : ◌≡◌ {A = LongitudeCode} (record { 0 = from_complement (complement w.longitude.0) }) w.longitude
  same-longitude = λ j. record { 0 = complement-back w.longitude.0 (turn_small w.longitude.0 t.longitudes) j }

  pub record-longitude : (wanted_record k w).longitude ≡ w.longitude
  record-longitude = by_kind (λ j. (wanted_record j w).longitude ≡ w.longitude) same-longitude same-longitude same-longitude same-longitude same-longitude k part

module _ (w : Wanted) where
  same-altitude : ◌≡◌ {A = AltitudeCode} (record { 0 = sign_of (bit_of (altitude_or_0 w.altitude).0); 1 = (altitude_or_0 w.altitude).1 }) (altitude_or_0 w.altitude)
  same-altitude = λ j. record { 0 = sign-back (altitude_or_0 w.altitude).0 j; 1 = (altitude_or_0 w.altitude).1 }

  pub point-altitude : (wanted_record AltitudePoint w).altitude ≡ (altitude_or_0 w.altitude)
  point-altitude = same-altitude

  pub ellipsoid-altitude : (wanted_record AltitudeEllipsoid w).altitude ≡ (altitude_or_0 w.altitude)
  ellipsoid-altitude = same-altitude
