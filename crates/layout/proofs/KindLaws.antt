-- Every type's rows are tidy: one test, made once for each type; a polygon's for any count. And which widths depend on the
-- count: those of a polygon's points alone.
use Prim.Native.Nat.{ℕ, ◌+◌, ◌*◌, ◌≤◌, ◌<◌}
use mathlib.Core.Path.{◌≡◌, refl, sym, ◌∙◌}
use mathlib.Core.Bool.{Bool, true, ◌&&◌}
use mathlib.Core.List.{List, [], ◌∷◌}
use native.Mathlib.Omega.{arith}
use lib.Dec.{eqb, ltb}
use borrow.Author.Tests.{eqb-true, ltb-true, ne_eqb}
use Rattle.layout.specs.declared.shape.Kind.{Kind}
use Rattle.layout.specs.declared.shape.Kind.TheVariants as shape
use Rattle.layout.specs.declared.velocity.VelocityKind.{VelocityKind}
use Rattle.layout.specs.declared.velocity.VelocityKind.TheVariants as velocity
use Rattle.layout.specs.Layout.{MessageField, Row, type_number, count, shape_rows, velocity_rows, type_of}
use Rattle.layout.specs.Rows.{tag, width_of}
use Rattle.layout.proofs.TidyLaws.{Tidy, both, tidy-by-test}
use Rattle.layout.proofs.PolygonLaws.{point-row, point-found, none_found, polygon-tidy}

pub shape-tidy : (k : Kind) (n : ℕ) → Tidy (shape_rows k n)
shape-tidy shape.Nothing n = tidy-by-test _ refl
shape-tidy shape.Point n = tidy-by-test _ refl
shape-tidy shape.Circle n = tidy-by-test _ refl
shape-tidy shape.Ellipse n = tidy-by-test _ refl
shape-tidy shape.Polygon n = polygon-tidy n
shape-tidy shape.AltitudePoint n = tidy-by-test _ refl
shape-tidy shape.AltitudeEllipsoid n = tidy-by-test _ refl
shape-tidy shape.Arc n = tidy-by-test _ refl

pub velocity-tidy : (k : VelocityKind) → Tidy (velocity_rows k)
velocity-tidy velocity.Nothing = tidy-by-test _ refl
velocity-tidy velocity.Horizontal = tidy-by-test _ refl
velocity-tidy velocity.HorizontalVertical = tidy-by-test _ refl
velocity-tidy velocity.HorizontalUncertain = tidy-by-test _ refl
velocity-tidy velocity.HorizontalVerticalUncertain = tidy-by-test _ refl

-- ---- a test that each kind passes, every kind passes: laws that are computed cite it

abbrev pub every_kind : (Kind → Bool) → Bool
every_kind test =
    test shape.Nothing && (test shape.Point && (test shape.Circle && (test shape.Ellipse && (test shape.Polygon && (test shape.AltitudePoint && (test shape.AltitudeEllipsoid && test shape.Arc))))))

pub each-kind : (test : Kind → Bool) → every_kind test ≡ true → (k : Kind) → test k ≡ true
each-kind test e k =
    let a = both _ _ e in
    let b = both _ _ a.1 in
    let c = both _ _ b.1 in
    let d = both _ _ c.1 in
    let f = both _ _ d.1 in
    let g = both _ _ f.1 in
    let h = both _ _ g.1 in
    by a.0 b.0 c.0 d.0 f.0 g.0 h.0 h.1 k
  where
    by : test shape.Nothing ≡ true → test shape.Point ≡ true → test shape.Circle ≡ true → test shape.Ellipse ≡ true → test shape.Polygon ≡ true → test shape.AltitudePoint ≡ true → test shape.AltitudeEllipsoid ≡ true → test shape.Arc ≡ true → (k : Kind) → test k ≡ true
    by a b c d f g h i shape.Nothing = a
    by a b c d f g h i shape.Point = b
    by a b c d f g h i shape.Circle = c
    by a b c d f g h i shape.Ellipse = d
    by a b c d f g h i shape.Polygon = f
    by a b c d f g h i shape.AltitudePoint = g
    by a b c d f g h i shape.AltitudeEllipsoid = h
    by a b c d f g h i shape.Arc = i

-- a type's number has four bits
pub type-small : (k : Kind) → type_of k < 16
type-small k = ltb-true _ _ (each-kind (λ k. ltb (type_of k) 16) refl k)

-- the widths of the type and of the count don't depend on the count
pub type-width : (k : Kind) (n : ℕ) → width_of (shape_rows k n) type_number ≡ width_of (shape_rows k 0) type_number
type-width k n = eqb-true _ _ (each-kind (λ k. eqb (width_of (shape_rows k n) type_number) (width_of (shape_rows k 0) type_number)) refl k)

pub count-width : (k : Kind) (n : ℕ) → width_of (shape_rows k n) count ≡ width_of (shape_rows k 0) count
count-width k n = eqb-true _ _ (each-kind (λ k. eqb (width_of (shape_rows k n) count) (width_of (shape_rows k 0) count)) refl k)

-- ---- widths

-- how many points a record's rows have, of a count that may be any
abbrev pub points_of : Kind → ℕ → ℕ
points_of shape.Nothing n = 0
points_of shape.Point n = 0
points_of shape.Circle n = 0
points_of shape.Ellipse n = 0
points_of shape.Polygon n = n
points_of shape.AltitudePoint n = 0
points_of shape.AltitudeEllipsoid n = 0
points_of shape.Arc n = 0

-- no row is of a polygon's point: their tags are from 22 on
abbrev pointless : List Row → Bool
pointless [] = true
pointless (r ∷ rs) = ltb (tag r.field) 22 && pointless rs

no-point : (rs : List Row) (f : MessageField) → pointless rs ≡ true → 22 ≤ tag f → width_of rs f ≡ 0
no-point [] f h l = refl
no-point (r ∷ rs) f h l =
    let b = both _ _ h in
    let low : tag r.field < 22 = ltb-true _ _ b.0 in
    let apart : tag f ≡ tag r.field → ⊥ = λ e. absurd (omega arith) in
    rw (ne_eqb _ _ apart) (no-point rs f b.1 l)

pub point-width : (k : Kind) (n r i : ℕ) → i < points_of k n → width_of (shape_rows k n) (point-row r i).field ≡ (point-row r i).width
point-width shape.Nothing n r i h = absurd (omega arith)
point-width shape.Point n r i h = absurd (omega arith)
point-width shape.Circle n r i h = absurd (omega arith)
point-width shape.Ellipse n r i h = absurd (omega arith)
point-width shape.Polygon n r i h = (point-found n r i h).width-found
point-width shape.AltitudePoint n r i h = absurd (omega arith)
point-width shape.AltitudeEllipsoid n r i h = absurd (omega arith)
point-width shape.Arc n r i h = absurd (omega arith)

-- a point after the last has no bits
pub no-point-width : (k : Kind) (n : ℕ) (f : MessageField) → 22 ≤ tag f → 3 * points_of k n + 22 ≤ tag f → width_of (shape_rows k n) f ≡ 0
no-point-width shape.Nothing n f l h = no-point (shape_rows shape.Nothing n) f refl l
no-point-width shape.Point n f l h = no-point (shape_rows shape.Point n) f refl l
no-point-width shape.Circle n f l h = no-point (shape_rows shape.Circle n) f refl l
no-point-width shape.Ellipse n f l h = no-point (shape_rows shape.Ellipse n) f refl l
no-point-width shape.Polygon n f l h = none_found n f (omega arith) (λ m. h)
no-point-width shape.AltitudePoint n f l h = no-point (shape_rows shape.AltitudePoint n) f refl l
no-point-width shape.AltitudeEllipsoid n f l h = no-point (shape_rows shape.AltitudeEllipsoid n) f refl l
no-point-width shape.Arc n f l h = no-point (shape_rows shape.Arc n) f refl l

-- what is no point's has the width that it has with no points
pub fixed-width : (k : Kind) (n : ℕ) (f : MessageField) → 2 ≤ tag f → tag f < 22 → width_of (shape_rows k n) f ≡ width_of (shape_rows k 0) f
fixed-width shape.Nothing n f l h = refl
fixed-width shape.Point n f l h = refl
fixed-width shape.Circle n f l h = refl
fixed-width shape.Ellipse n f l h = refl
fixed-width shape.Polygon n f l h = none_found n f l (λ m. absurd (omega arith)) ∙ sym (none_found 0 f l (λ m. absurd (omega arith)))
fixed-width shape.AltitudePoint n f l h = refl
fixed-width shape.AltitudeEllipsoid n f l h = refl
fixed-width shape.Arc n f l h = refl
