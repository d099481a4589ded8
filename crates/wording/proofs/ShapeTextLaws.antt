-- A shape's text over the layout table's rows is that of its parts, in the order in which they are put.
use Prim.Native.Nat.{ℕ, zero, suc, ◌+◌}
use mathlib.Core.Path.{◌≡◌, refl, sym, ap, ◌∙◌}
use mathlib.Core.List.{List, ◌++◌, append_assoc, append-nil}
use native.Mathlib.Nat.{add-zero, zero-add}
use native.Mathlib.Numerals.{add-one}
use native.Mathlib.Omega.{arith}
use lib.IntN.{pos}
use lib.ListN.{get_or}
use Rattle.ground.specs.Answers.{done}
use Rattle.ground.specs.declared.code.LatitudeCode.{LatitudeCode}
use Rattle.ground.specs.declared.code.LongitudeCode.{LongitudeCode}
use Rattle.text.specs.Text.{PutsWithin}
use Rattle.fields.specs.Fields.{QuantityOf, Reporting}
use Rattle.layout.specs.declared.shape.Kind.{Kind}
use Rattle.layout.specs.declared.shape.Kind.TheVariants as shape
use Rattle.layout.specs.declared.shape.Shape.{Shape}
use Rattle.layout.specs.Layout.{points, shape_rows, type_of}
use Rattle.layout.specs.Demands.{TypeKnown}
use Rattle.layout.specs.Shapes.{zero_latitude, zero_longitude}
use Rattle.quantities.specs.Places.{Place, field_of}
use Rattle.quantities.specs.Shapes.{code_at, TakesShape}
use Rattle.quantities.proofs.HeldLaws.{shape-held}
use Rattle.wording.specs.Numbers.{number_text, quantity_text, rows_text, head_text, code_text}
use Rattle.wording.proofs.NumberLaws.{reported}
use Rattle.wording.specs.ShapeTexts.{shape_text, position_text, points_text, rest_text}

module _ {x y : List ℕ} {i j : ℕ} where
  -- of a code of a shape that the writer takes
  pub reported-at : (s : Shape) → TakesShape s → (p : Place) (q : QuantityOf (field_of p)) {most : ℕ} → Reporting (field_of p) (code_at s p) (done q)
      → PutsWithin most x i (quantity_text (field_of p) q) y j → PutsWithin most x i (code_text (field_of p) (code_at s p)) y j
  reported-at s t p q r w = reported (field_of p) (code_at s p) q (shape-held s t p) r w

-- the points up to one, and that one
pub one_more : (cs : List LatitudeCode) (ds : List LongitudeCode) (i : ℕ) → points_text cs ds i ++ position_text (get_or cs i zero_latitude) (get_or ds i zero_longitude) ≡ points_text cs ds (i + 1)
one_more cs ds i = ap (points_text cs ds) (sym (add-one i))

module _ (x : Shape) where
  fixed-rows : (k : Kind) (n : ℕ) → TypeKnown (shape_rows k n) → (k ≡ shape.Polygon → ⊥) → position_text x.latitude x.longitude ++ rest_text k x ≡ rows_text (code_at x) n (shape_rows k n)
  unfolding code_text
  fixed-rows shape.Nothing n l h = absurd (omega arith)
  fixed-rows shape.Point n l h = simp (append_assoc, append-nil)
  fixed-rows shape.Circle n l h = simp (append_assoc, append-nil)
  fixed-rows shape.Ellipse n l h = simp (append_assoc, append-nil)
  fixed-rows shape.Polygon n l h = absurd (h refl)
  fixed-rows shape.AltitudePoint n l h = simp (append_assoc, append-nil)
  fixed-rows shape.AltitudeEllipsoid n l h = simp (append_assoc, append-nil)
  fixed-rows shape.Arc n l h = simp (append_assoc, append-nil)

  -- the first i points, and the rows of n more
  points-rows : (m i n : ℕ) → points_text x.latitudes x.longitudes i ++ rows_text (code_at x) m (points i n) ≡ points_text x.latitudes x.longitudes (i + n)
  unfolding code_text
  points-rows m i zero = append-nil _ ∙ ap (points_text x.latitudes x.longitudes) (sym (add-zero i))
  points-rows m i (suc n) =
      let e : suc i + n ≡ i + suc n = omega arith in
      simp append_assoc at (points-rows m (suc i) n) ∙ ap (points_text x.latitudes x.longitudes) e

  -- a shape's text where it has a position, and where it has points
  pub fixed-text : TypeKnown (shape_rows x.kind x.count) → (x.kind ≡ shape.Polygon → ⊥) → head_text (type_of x.kind) ++ (position_text x.latitude x.longitude ++ rest_text x.kind x) ≡ shape_text x
  unfolding head_text shape_text
  fixed-text l h = ap (λ (t : List ℕ). head_text (type_of x.kind) ++ t) (fixed-rows x.kind x.count l h)

  pub points-text : x.kind ≡ shape.Polygon → head_text 5 ++ (number_text (pos x.count) ++ points_text x.latitudes x.longitudes x.count) ≡ shape_text x
  unfolding head_text shape_text
  points-text e =
      let n = x.count in
      let p = points-rows n 0 n ∙ ap (points_text x.latitudes x.longitudes) (zero-add n) in
      ap (λ (t : List ℕ). head_text 5 ++ (number_text (pos n) ++ t)) (sym p)
      ∙ ap (λ (k : Kind). head_text (type_of k) ++ rows_text (code_at x) n (shape_rows k n)) (sym e)
