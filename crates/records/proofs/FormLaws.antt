-- The form of each kind: whether it is listed, and its count.
use Prim.Native.Nat.{ℕ, ◌≤◌}
use mathlib.Core.Path.{◌≡◌, sym, subst}
use native.Mathlib.Omega.{arith}
use Rattle.ground.specs.Answers.{Unless, unmet, met, Else0}
use Rattle.ground.proofs.AnswerLaws.{when-done}
use Rattle.layout.specs.declared.shape.Kind.{Kind}
use Rattle.layout.specs.declared.shape.Kind.TheVariants.{Polygon}
use Rattle.layout.specs.Layout.{shape_rows}
use Rattle.layout.specs.Demands.{CountSound}
use Rattle.layout.proofs.PolygonLaws.{polygon-length}
use Rattle.quantities.specs.declared.shape.ShapeQuantities.{ShapeQuantities}
use Rattle.records.specs.Kinds.{QuantitiesFormAnswer, Formed}

module _ (k : Kind) (n : ℕ) where
  of-kind : (j : Kind) (m : ℕ) → k ≡ j → QuantitiesFormAnswer j n m → QuantitiesFormAnswer k n m
  of-kind j m e h = subst (λ (i : Kind). QuantitiesFormAnswer i n m) (sym e) h

  pub polygon-form : (m : ℕ) → k ≡ Polygon → Unless ((3 ≤ n) × (n ≤ 15)) 4 Else0 m → QuantitiesFormAnswer k n m
  polygon-form m e h = of-kind Polygon m e (met (rw (polygon-length n) (omega arith)) (counted h))
    where
      counted : Unless ((3 ≤ n) × (n ≤ 15)) 4 Else0 m → Unless (CountSound (shape_rows Polygon n) (λ f. n)) 4 Else0 m
      counted (unmet p z) = unmet (λ s. p (s.least (omega arith), s.most (omega arith))) z
      counted (met p z) = met (record { least = λ u. p.0; most = λ u. p.1 }) z

-- ---- what the form's answer says of the whole

module _ (q : ShapeQuantities) where
  pub formed : QuantitiesFormAnswer q.kind q.count 0 → Formed q
  formed h =
      let a = when-done _ _ _ (λ e. absurd (omega arith)) h in
      let b = when-done _ _ _ (λ e. absurd (omega arith)) a.1 in
      record { listed = a.0; counted = b.0 }
