-- What is shown of an outline holds of the quantities, which differ in their points alone, and what is shown of the quantities holds of their
-- outline.
use Prim.Native.Nat.{ℕ, ◌≤◌}
use mathlib.Core.Path.{refl}
use mathlib.Core.Bool.{Bool}
use mathlib.Core.List.{List}
use native.Mathlib.Omega.{arith}
use lib.IntN.{ℤ}
use Rattle.layout.specs.declared.shape.Kind.{Kind}
use Rattle.layout.specs.declared.shape.Kind.TheVariants.{Nothing, Point, Circle, Ellipse, Polygon, AltitudePoint, AltitudeEllipsoid, Arc}
use Rattle.layout.specs.declared.shape.Shape.{Shape}
use Rattle.layout.specs.Layout.{shape_rows}
use Rattle.layout.specs.Demands.{CountSound}
use Rattle.outline_codes.specs.declared.unused.Uses.{Uses}
use Rattle.outline_codes.specs.Kinds.{uses_of}
use Rattle.outline_codes.specs.Unused.{Idle, RestZero}
use Rattle.outline_codes.specs.declared.ranges.Ranged.{Ranged}
use Rattle.outline_codes.specs.declared.sizes.Sizes.{Sizes}
use Rattle.outline_codes.specs.Outlines.{Outlined}
use Rattle.outline_codes.specs.Ranges.{RangesKept, RangedCodes}
use Rattle.outline_codes.specs.Sizes.{SizesCovered, SizeCodes}
use Rattle.quantity_arrays.specs.Shapes.{quantities_in, quantity_outline_in}

module _ (elements : List ℤ) where
  -- ---- of the quantities

  pub rest-zero-in : {u : Uses} → RestZero u (quantity_outline_in elements) → RestZero u (quantities_in elements)
  rest-zero-in z = record {
    latitudes = z.latitudes;
    longitudes = z.longitudes;
    altitudes = z.altitudes;
    confidences = z.confidences;
    counts = z.counts;
    numbers = record { uncertainties = z.numbers.uncertainties; semi_majors = z.numbers.semi_majors; semi_minors = z.numbers.semi_minors; orientations = z.numbers.orientations; altitude_uncertainties = z.numbers.altitude_uncertainties; inner_radii = z.numbers.inner_radii; offsets = z.numbers.offsets; includeds = z.numbers.includeds };
  }

  pub ranged-in : {arc : Bool} {r : Ranged} → RangedCodes arc (quantity_outline_in elements) r → RangedCodes arc (quantities_in elements) r
  ranged-in z = record {
    latitudes = z.latitudes;
    longitudes = z.longitudes;
    orientations = z.orientations;
    offsets = z.offsets;
    includeds = z.includeds;
    confidences = z.confidences;
  }

  pub sizes-in : {s : Sizes} → SizeCodes (quantity_outline_in elements) s → SizeCodes (quantities_in elements) s
  sizes-in z = record {
    uncertainties = z.uncertainties;
    semi_majors = z.semi_majors;
    semi_minors = z.semi_minors;
    altitude_uncertainties = z.altitude_uncertainties;
  }

  pub outlined-in : {r : Ranged} {s : Sizes} {x : Shape} → Outlined (quantity_outline_in elements) r s x → Outlined (quantities_in elements) r s x
  outlined-in z = record {
    altitude = z.altitude;
    inner_radius = z.inner_radius;
    altitudes = z.altitudes;
    inner_radii = z.inner_radii;
    joined = z.joined;
  }

  -- ---- of the outline

  pub rest-zero-out : {u : Uses} → RestZero u (quantities_in elements) → RestZero u (quantity_outline_in elements)
  rest-zero-out z = record {
    latitudes = z.latitudes;
    longitudes = z.longitudes;
    altitudes = z.altitudes;
    confidences = z.confidences;
    counts = z.counts;
    numbers = record { uncertainties = z.numbers.uncertainties; semi_majors = z.numbers.semi_majors; semi_minors = z.numbers.semi_minors; orientations = z.numbers.orientations; altitude_uncertainties = z.numbers.altitude_uncertainties; inner_radii = z.numbers.inner_radii; offsets = z.numbers.offsets; includeds = z.numbers.includeds };
  }

  pub ranges-out : {arc : Bool} → RangesKept arc (quantities_in elements) → RangesKept arc (quantity_outline_in elements)
  ranges-out z = record {
    latitudes = z.latitudes;
    longitudes = z.longitudes;
    orientations = z.orientations;
    offsets = z.offsets;
    includeds = z.includeds;
    confidences = z.confidences;
  }

  pub sizes-out : SizesCovered (quantities_in elements) → SizesCovered (quantity_outline_in elements)
  sizes-out z = record {
    uncertainties = z.uncertainties;
    semi_majors = z.semi_majors;
    semi_minors = z.semi_minors;
    altitude_uncertainties = z.altitude_uncertainties;
  }

-- a count that is formed, and zero where it isn't used, is one of fifteen points at most
pub few-points : (k : Kind) (n : ℕ) → CountSound (shape_rows k n) (λ f. n) → Idle (uses_of k).count n 0 → n ≤ 15
few-points Nothing n c h = let z = h refl in omega arith
few-points Point n c h = let z = h refl in omega arith
few-points Circle n c h = let z = h refl in omega arith
few-points Ellipse n c h = let z = h refl in omega arith
few-points Polygon n c h = c.most (omega arith)
few-points AltitudePoint n c h = let z = h refl in omega arith
few-points AltitudeEllipsoid n c h = let z = h refl in omega arith
few-points Arc n c h = let z = h refl in omega arith
