-- The point is the only kind that can hold what is wanted.
use Rattle.std.specs.Prelude.{is_some}
use mathlib.Core.Path.{ap}
use native.Mathlib.Omega.{arith}
use Rattle.layout.specs.declared.shape.Kind.TheVariants.{Point}
use Rattle.requests.specs.Choice.{Listed}
use Rattle.requests.proofs.FoundLaws.{only-point, able-point}
use Rattle.choice.proofs.ListedLaws.{found-only}
use Rattle.choice.proofs.kind.best_kind.Goals as goal

pub returns : goal.returns
returns c = found-only c.args.wanted (Listed c.args.list) Point (able-point c.args.wanted (cc) (ap is_some c.in_default.is) (cc) (omega arith)) (λ j a t. only-point c.args.wanted (cc) (ap is_some c.in_default.is) j a) c.if_listed.result c.if_listed.ensures
