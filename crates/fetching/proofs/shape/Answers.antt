-- A polygon has the points that its count says, and the octets that hold them; each other kind's record is its own function's.
use Prim.Native.Nat.{ℕ, ◌+◌, ◌*◌}
use mathlib.Core.Path.{◌≡◌, ap, sym, subst, ◌∙◌}
use mathlib.Core.List.{List}
use native.Mathlib.Omega.{arith}
use lib.ListN.{length}
use Rattle.octets.specs.Bits.{bits}
use Rattle.octets.proofs.BitLaws.{bits-lt}
use Rattle.layout.specs.declared.shape.Kind.{Kind}
use Rattle.layout.specs.declared.shape.Kind.TheVariants.{Polygon}
use Rattle.layout.proofs.PolygonLaws.{polygon-length}
use Rattle.fetching.specs.Fetching.{ShapeOfLength, shape_of_kind, polygon_of}
use Rattle.fetching.proofs.PolygonRecord.{polygon-record}
use Rattle.fetching.proofs.shape.Goals as goal

polygon-long : (s : List ℕ) (kind : Kind) → kind ≡ Polygon → ShapeOfLength kind s → length s ≡ 1 + 6 * bits s 4 4
polygon-long s kind e h = subst (λ (j : Kind). ShapeOfLength j s) e h ∙ polygon-length (bits s 4 4)

pub polygon-requires : goal.polygon-requires
polygon-requires c =
    let s = c.args.s.now in
    let few = bits-lt s 4 4 in
    record { n_bound = omega (arith, c.requires.n_value); n_in_bounds = omega (arith, c.requires.n_value, polygon-long s _ c.in-Polygon.is c.requires.shape_of_length) }

pub returns-in-Polygon : goal.returns-in-Polygon
returns-in-Polygon c =
    let s = c.args.s.now in
    let few = bits-lt s 4 4 in
    c.polygon.ensures
    ∙ ap (λ (n : ℕ). polygon_of n s) c.requires.n_value
    ∙ polygon-record s (omega arith)
    ∙ sym (ap (λ (k : Kind). shape_of_kind k s) c.in-Polygon.is)
