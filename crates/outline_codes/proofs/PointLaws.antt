-- The codes of points: one point more, and all of them.
use Prim.Native.Nat.{ℕ, ◌+◌, ◌<◌}
use mathlib.Core.Path.{◌≡◌}
use mathlib.Core.Bool.{Bool}
use mathlib.Core.List.{List}
use native.Mathlib.Omega.{arith}
use lib.Dec.{ltb}
use lib.ListN.{length, get_or, set}
use lib.Seq.{get_or-set_same, get_or-set_other}
use borrow.Author.Count.{below_more}
use Rattle.ground.specs.declared.code.LatitudeCode.{LatitudeCode}
use Rattle.ground.specs.declared.code.LongitudeCode.{LongitudeCode}
use Rattle.ground.specs.declared.quantity.Nanodegrees.{Nanodegrees}
use Rattle.fields.specs.Fields as field
use Rattle.layout.specs.Shapes.{zero_latitude, zero_longitude}
use Rattle.quantities.specs.Shapes.{zero_degrees}
use Rattle.outline_codes.specs.Points.{PointKept, PointCodes}
use Rattle.quantities.proofs.ZeroLaws.{not-refused}

abbrev pub CodesAt : List Nanodegrees → List Nanodegrees → ℕ → List LatitudeCode → List LongitudeCode → ℕ → Type 0
CodesAt xs ys n cs ds i = PointCodes (ltb i n) (get_or xs i zero_degrees) (get_or ys i zero_degrees) (get_or cs i zero_latitude) (get_or ds i zero_longitude)

module _ (xs ys : List Nanodegrees) (n : ℕ) (cs : List LatitudeCode) (ds : List LongitudeCode) (a : length cs ≡ 15) (b : length ds ≡ 15) where
  pub one_more : (i : ℕ) (c : LatitudeCode) (d : LongitudeCode) → i < 15 → ((k : ℕ) → k < i → CodesAt xs ys n cs ds k) → PointCodes (ltb i n) (get_or xs i zero_degrees) (get_or ys i zero_degrees) c d
      → (k : ℕ) → k < i + 1 → CodesAt xs ys n (set cs i c) (set ds i d) k
  one_more i c d l before here = below_more (CodesAt xs ys n (set cs i c) (set ds i d)) i others this
    where
      this : CodesAt xs ys n (set cs i c) (set ds i d) i
      this = rw (get_or-set_same cs i c zero_latitude (omega arith), get_or-set_same ds i d zero_longitude (omega arith)) here

      others : (k : ℕ) → k < i → CodesAt xs ys n (set cs i c) (set ds i d) k
      others k h =
          let apart : k ≡ i → ⊥ = λ e. absurd (omega arith) in
          rw (get_or-set_other cs i k c zero_latitude apart, get_or-set_other ds i k d zero_longitude apart) (before k h)

-- a point that has its codes is in range
pub codes-kept : {used : Bool} {x y : Nanodegrees} {c : LatitudeCode} {d : LongitudeCode} → PointCodes used x y c d → PointKept used x y
codes-kept {used} {x} {y} {c} {d} p = record {
  latitudes = λ e. not-refused field.latitude x c 7 (p.latitudes e);
  longitudes = λ e. not-refused field.longitude y d 7 (p.longitudes e);
  no_latitudes = λ e. (p.no_latitudes e).0;
  no_longitudes = λ e. (p.no_longitudes e).0;
}
