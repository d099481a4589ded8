-- The kind that the list may have is the only one that can hold what is wanted.
use native.Mathlib.Omega.{arith}
use Rattle.layout.specs.declared.shape.Kind.TheVariants.{AltitudePoint, AltitudeEllipsoid}
use Rattle.requests.specs.Choice.{Listed}
use Rattle.requests.proofs.FoundLaws.{able-ellipsoid, only-ellipsoid, able-level, only-level}
use Rattle.choice.proofs.ListedLaws.{found-only}
use Rattle.choice.proofs.kind.elevated_kind.Goals as goal

pub returns-then-is_some-2 : goal.returns-then-is_some-2
returns-then-is_some-2 c = found-only c.args.wanted (Listed c.args.list) AltitudeEllipsoid (able-ellipsoid c.args.wanted c.requires (cc) (cc)) (λ j a t. only-ellipsoid c.args.wanted c.requires (cc) (cc) j a) c.if_listed.result c.if_listed.ensures

pub returns : goal.returns
returns c = found-only c.args.wanted (Listed c.args.list) AltitudePoint (able-level c.args.wanted c.requires (cc) (cc) (omega arith)) (λ j a t. only-level c.args.wanted c.requires (cc) (cc) (omega arith) j a) c.if_listed-2.result c.if_listed-2.ensures
