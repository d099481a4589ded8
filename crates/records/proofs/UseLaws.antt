-- Which places a kind uses: a place has bits just where its group is used, and a polygon's point where it is one of the first n.
--
use Prim.Native.Nat.{ℕ, suc, ◌<◌, ◌≤◌}
use mathlib.Core.Path.{◌≡◌, refl, sym, ◌∙◌}
use mathlib.Core.Bool.{Bool, true, false}
use native.Mathlib.Omega.{arith}
use lib.Dec.{ltb}
use borrow.Author.Tests.{ltb-true, ltb-false, lt-ltb, le-ltb}
use Rattle.layout.specs.declared.shape.Kind.{Kind}
use Rattle.layout.specs.declared.shape.Kind.TheVariants.{Nothing, Point, Circle, Ellipse, Polygon, AltitudePoint, AltitudeEllipsoid, Arc}
use Rattle.layout.specs.Layout.{MessageField, shape_rows}
use Rattle.layout.specs.Layout as layout
use Rattle.layout.specs.Rows.{tag, width_of}
use Rattle.layout.specs.Demands.{Used}
use Rattle.layout.proofs.KindLaws.{count-width, points_of, point-width, no-point-width, fixed-width}
use Rattle.quantities.specs.Places.{Unused}
use Rattle.quantities.proofs.UnusedLaws.{used-point, unused-point}
use Rattle.quantities.proofs.TestLaws.{no_bits, no-bits-back}
use Rattle.outline_codes.specs.Kinds.{uses}

-- ---- the groups

pub record Grouped (k : Kind) : Type 0 where
  pub longitudes : uses k (layout.longitude 0) ≡ uses k (layout.latitude 0)
  pub semi_minors : uses k layout.semi_minor ≡ uses k layout.semi_major
  pub orientations : uses k layout.orientation ≡ uses k layout.semi_major
  pub offsets : uses k layout.offset ≡ uses k layout.inner_radius
  pub includeds : uses k layout.included ≡ uses k layout.inner_radius

pub grouped : (k : Kind) → Grouped k
grouped Nothing = record { longitudes = refl; semi_minors = refl; orientations = refl; offsets = refl; includeds = refl }
grouped Point = record { longitudes = refl; semi_minors = refl; orientations = refl; offsets = refl; includeds = refl }
grouped Circle = record { longitudes = refl; semi_minors = refl; orientations = refl; offsets = refl; includeds = refl }
grouped Ellipse = record { longitudes = refl; semi_minors = refl; orientations = refl; offsets = refl; includeds = refl }
grouped Polygon = record { longitudes = refl; semi_minors = refl; orientations = refl; offsets = refl; includeds = refl }
grouped AltitudePoint = record { longitudes = refl; semi_minors = refl; orientations = refl; offsets = refl; includeds = refl }
grouped AltitudeEllipsoid = record { longitudes = refl; semi_minors = refl; orientations = refl; offsets = refl; includeds = refl }
grouped Arc = record { longitudes = refl; semi_minors = refl; orientations = refl; offsets = refl; includeds = refl }

-- a place that is no point's, in the group of g
module _ (k : Kind) (n : ℕ) (f : MessageField) (low : 2 ≤ tag f) (high : tag f < 22) {g : Bool} (same : uses k f ≡ g) where
  pub idle : Unused (shape_rows k n) f → g ≡ false
  idle e = sym same ∙ no_bits _ (sym (fixed-width k n f low high) ∙ e)

  pub idle-back : g ≡ false → Unused (shape_rows k n) f
  idle-back e = fixed-width k n f low high ∙ no-bits-back _ (same ∙ e)

  pub active : Used (shape_rows k n) f → g ≡ true
  active u = sym same ∙ lt-ltb 0 (width_of (shape_rows k 0) f) (omega (arith, fixed-width k n f low high))

  pub active-back : g ≡ true → Used (shape_rows k n) f
  active-back e = omega (arith, fixed-width k n f low high, ltb-true 0 (width_of (shape_rows k 0) f) (same ∙ e))

-- ---- the count

module _ (k : Kind) (n : ℕ) where
  pub count-idle : Unused (shape_rows k n) layout.count → uses k layout.count ≡ false
  count-idle e = no_bits _ (sym (count-width k n) ∙ e)

  pub count-idle-back : uses k layout.count ≡ false → Unused (shape_rows k n) layout.count
  count-idle-back e = count-width k n ∙ no-bits-back _ e

-- ---- a polygon's point

module _ (k : Kind) (n : ℕ) (counted : points_of k n ≡ n) (i : ℕ) where
  pub latitude-used : ltb i n ≡ true → Used (shape_rows k n) (layout.latitude (suc i))
  latitude-used e = omega (arith, point-width k n 1 i (omega (arith, ltb-true i n e)))

  pub longitude-used : ltb i n ≡ true → Used (shape_rows k n) (layout.longitude (suc i))
  longitude-used e = omega (arith, point-width k n 2 i (omega (arith, ltb-true i n e)))

  pub latitude-unused : ltb i n ≡ false → Unused (shape_rows k n) (layout.latitude (suc i))
  latitude-unused e = no-point-width k n (layout.latitude (suc i)) (omega arith) (omega (arith, ltb-false i n e))

  pub longitude-unused : ltb i n ≡ false → Unused (shape_rows k n) (layout.longitude (suc i))
  longitude-unused e = no-point-width k n (layout.longitude (suc i)) (omega arith) (omega (arith, ltb-false i n e))

  pub latitude-counted : Used (shape_rows k n) (layout.latitude (suc i)) → ltb i n ≡ true
  latitude-counted u = lt-ltb i n (omega (arith, used-point k n i (layout.latitude (suc i)) (omega arith) u))

  pub longitude-counted : Used (shape_rows k n) (layout.longitude (suc i)) → ltb i n ≡ true
  longitude-counted u = lt-ltb i n (omega (arith, used-point k n i (layout.longitude (suc i)) (omega arith) u))

  pub latitude-past : Unused (shape_rows k n) (layout.latitude (suc i)) → ltb i n ≡ false
  latitude-past e = le-ltb i n (omega (arith, unused-point k n 1 i (omega arith) e))

  pub longitude-past : Unused (shape_rows k n) (layout.longitude (suc i)) → ltb i n ≡ false
  longitude-past e = le-ltb i n (omega (arith, unused-point k n 2 i (omega arith) e))
