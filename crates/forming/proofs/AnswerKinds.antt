-- The answers that the reader's parts give to a kind, a count and a length are those of the kind's rows.
use Prim.Native.Nat.{ℕ, ◌+◌, ◌*◌, ◌<◌, ◌≤◌}
use mathlib.Core.Path.{◌≡◌, refl}
use native.Mathlib.Omega.{arith}
use Rattle.ground.specs.Answers.{unmet, met}
use Rattle.layout.specs.declared.shape.Kind.TheVariants.{Polygon}
use Rattle.layout.specs.Layout.{shape_rows}
use Rattle.layout.specs.Demands.{TypeKnown}
use Rattle.layout.proofs.PolygonLaws.{polygon-length}
use Rattle.forming.specs.Forming.{LengthAnswer, MessageFormAnswer}

module _ (n octets m : ℕ) where
  listed : TypeKnown (shape_rows Polygon n)
  listed = rw (polygon-length n) (omega arith)

  pub few : n < 3 → m ≡ 4 → MessageFormAnswer Polygon n octets m
  few h e = met listed (unmet (λ c. absurd (omega (arith, c.least (omega arith)))) e)

  pub enough : n < 16 → 3 ≤ n → LengthAnswer (1 + 6 * n) octets m → MessageFormAnswer Polygon n octets m
  enough l h a = met listed (met (record { least = λ u. h; most = λ u. omega arith }) (rw (polygon-length n) a))

module _ {n octets : ℕ} where
  pub polygon_of_wrong_length : n < 16 → 3 ≤ n → (octets ≡ 1 + 6 * n → ⊥) → MessageFormAnswer Polygon n octets 3
  polygon_of_wrong_length l h w = enough n octets 3 l h (unmet w refl)

  pub polygon_of_its_length : n < 16 → 3 ≤ n → octets ≡ 1 + 6 * n → MessageFormAnswer Polygon n octets 0
  polygon_of_its_length l h e = enough n octets 0 l h (met e refl)
