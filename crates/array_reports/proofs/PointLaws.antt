-- A point of the record that elements say: its codes from its elements, and its coordinates put after those of the points before it.
--
use Prim.Native.Nat.{ℕ, suc, ◌+◌, ◌*◌, ◌<◌}
use mathlib.Core.Path.{◌≡◌, refl, sym, ap, ◌∙◌, subst}
use mathlib.Core.List.{List}
use native.Mathlib.Omega.{arith}
use lib.Dec.{eqb}
use lib.IntN.{ℤ}
use lib.ListN.{get_or, set, replicate}
use lib.Seq.{sets, get_or-set_same, get_or-set_other}
use lib.Signed.{mag}
use Rattle.ground.specs.Answers.{done}
use Rattle.ground.specs.declared.code.LatitudeCode.{LatitudeCode}
use Rattle.ground.specs.declared.code.LongitudeCode.{LongitudeCode}
use Rattle.ground.specs.declared.quantity.Nanodegrees.{Nanodegrees}
use Rattle.octets.proofs.ComplementLaws.{complement-back}
use Rattle.octets.specs.Codes.{complement, from_complement}
use Rattle.fields.specs.Fields.{Reporting}
use Rattle.fields.specs.Fields as field
use Rattle.layout.specs.Layout.{longitude}
use Rattle.layout.specs.Shapes.{latitude_of, longitude_of, zero_latitude, zero_longitude}
use Rattle.layout.proofs.ShapeRecords.{at-upto}
use Rattle.quantities.specs.Shapes.{zero_degrees}
use Rattle.quantities.proofs.HeldLaws.{turn-held}
use Rattle.field_reports.proofs.FillLaws.{none_filled, one_more}
use Rattle.code_arrays.specs.CodeNumbers.{element_at, from_bits}
use Rattle.code_arrays.specs.Shapes.{value_in, record_in}
use Rattle.code_arrays.proofs.ArrayLaws.{south-element, latitude-element, longitude-element}
use Rattle.limits.specs.Limits.{PointWithin}
use Rattle.quantity_arrays.specs.Shapes.{point_quantity_elements}
use Rattle.quantity_arrays.proofs.PointLaws.{same_points, point-more}
use Rattle.array_reports.specs.Reports.{PutsPointQuantities}

module _ (elements : List ℕ) where
  -- ---- the codes of a point within its fields

  module _ (i : ℕ) (few : i < 15) (within : PointWithin elements i) where
    pub latitude-held : element_at elements (16 + 3 * i + 1) < 8388608
    latitude-held = rw (latitude-element elements i few) at within.size

    pub latitude-is : ◌≡◌ {A = LatitudeCode} (record { 0 = eqb (element_at elements (16 + 3 * i)) 1; 1 = element_at elements (16 + 3 * i + 1) }) (get_or (record_in elements).latitudes i zero_latitude)
    latitude-is = rw (at-upto (λ j. latitude_of (value_in elements) (suc j)) 15 i zero_latitude few, ← south-element elements i few, ← latitude-element elements i few)

    module _ {c : LongitudeCode} (read : c.0 ≡ from_bits (element_at elements (16 + 3 * i + 2))) where
      turned : complement c.0 < 16777216
      turned = rw (read, ← longitude-element elements i few) within.turn

      pub longitude-held : mag c.0 < 8388608
      longitude-held = turn-held c.0 turned

      number : c.0 ≡ from_complement (value_in elements (longitude (suc i)))
      number = sym (complement-back c.0 turned) ∙ ap (λ (z : ℤ). from_complement (complement z)) read ∙ ap from_complement (sym (longitude-element elements i few))

      pub longitude-is : c ≡ get_or (record_in elements).longitudes i zero_longitude
      longitude-is = (λ j. record { 0 = number j }) ∙ sym (at-upto (λ k. longitude_of (value_in elements) (suc k)) 15 i zero_longitude few)

  -- ---- the coordinates

  pub none-put : (o : List ℤ) → PutsPointQuantities elements 0 o o
  none-put o = record {
    latitudes = replicate 15 zero_degrees;
    longitudes = replicate 15 zero_degrees;
    told_latitudes = none_filled _;
    told_longitudes = none_filled _;
    put = refl;
  }

  module _ {o out : List ℤ} {i : ℕ} (p : PutsPointQuantities elements i o out) (few : i < 15) {a : LatitudeCode} {b : LongitudeCode}
      (at-latitude : a ≡ get_or (record_in elements).latitudes i zero_latitude) (at-longitude : b ≡ get_or (record_in elements).longitudes i zero_longitude)
      (x y : Nanodegrees) (latitude-told : Reporting field.latitude a (done x)) (longitude-told : Reporting field.longitude b (done y)) where
    abbrev lats : List Nanodegrees
    lats = set p.latitudes i x

    abbrev lons : List Nanodegrees
    lons = set p.longitudes i y

    before : out ≡ sets o 14 (point_quantity_elements lats lons i)
    before =
        p.put
        ∙ ap (sets o 14)
        (same_points p.latitudes p.longitudes lats lons i
        (λ j h. sym (get_or-set_other p.latitudes i j x zero_degrees (λ e. absurd (omega arith))))
        (λ j h. sym (get_or-set_other p.longitudes i j y zero_degrees (λ e. absurd (omega arith)))))

    -- one point more
    pub one-put : {north east : ℤ} → north ≡ x.0 → east ≡ y.0 → PutsPointQuantities elements (i + 1) o (set (set out (14 + 2 * i) north) (15 + 2 * i) east)
    one-put n e = record {
      latitudes = lats;
      longitudes = lons;
      told_latitudes = one_more _ i p.latitudes x p.told_latitudes few (subst (λ (k : LatitudeCode). Reporting field.latitude k (done x)) at-latitude latitude-told);
      told_longitudes = one_more _ i p.longitudes y p.told_longitudes few (subst (λ (k : LongitudeCode). Reporting field.longitude k (done y)) at-longitude longitude-told);
      put =
          rw before
          (point-more lats lons o i _ _
          (n ∙ ap (λ (a : Nanodegrees). a.0) (sym (get_or-set_same p.latitudes i x zero_degrees (omega (arith, p.told_latitudes.fifteen)))))
          (e ∙ ap (λ (a : Nanodegrees). a.0) (sym (get_or-set_same p.longitudes i y zero_degrees (omega (arith, p.told_longitudes.fifteen))))));
    }
