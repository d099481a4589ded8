-- The form of quantities.
use Rattle.std.specs.Prelude.{ℕ}
use Rattle.ground.specs.Answers.{Unless, Else0}
use Rattle.layout.specs.declared.shape.Kind.{Kind}
use Rattle.layout.specs.Layout.{shape_rows}
use Rattle.layout.specs.Demands.{TypeKnown, CountSound}
use Rattle.quantities.specs.declared.shape.ShapeQuantities.{ShapeQuantities}
use Rattle.quantities.specs.Shapes.{quantity_rows}

-- 2 and 4
abbrev pub QuantitiesFormAnswer : Kind → ℕ → ℕ → Type 0
QuantitiesFormAnswer k n = Unless (TypeKnown (shape_rows k n)) 2 (Unless (CountSound (shape_rows k n) (λ f. n)) 4 Else0)

pub record Formed (q : ShapeQuantities) : Type 0 where
  pub listed : TypeKnown (quantity_rows q)
  pub counted : CountSound (quantity_rows q) (λ f. q.count)
