-- A circle, unless there is a confidence, the list has none, or an ellipse is on the list and is tighter.
use Rattle.std.specs.Prelude.{is_some, true}
use mathlib.Core.Path.{◌≡◌, refl, ap}
use native.Mathlib.Omega.{arith}
use Rattle.layout.specs.declared.shape.Kind.TheVariants.{Ellipse}
use Rattle.requests.specs.Choice.{Listed}
use Rattle.requests.proofs.FoundLaws.{by-area, able-ellipse, able-circle, circle-best, ellipse-best}
use Rattle.choice.proofs.ListedLaws.{found-only}
use Rattle.choice.proofs.kind.area_kind.Goals as goal

pub returns-then-wanted-gt0 : goal.returns-then-wanted-gt0
returns-then-wanted-gt0 c =
    let wide : is_some c.args.wanted.area ≡ true = ap is_some c.requires.2 in
    found-only c.args.wanted (Listed c.args.list) Ellipse (able-ellipse c.args.wanted c.requires.0 wide c.requires.1) (by-area c.args.wanted c.requires.0 wide (λ j. Listed c.args.list j → j ≡ Ellipse) (λ a t. absurd (omega (arith, a.confidences refl, c.if-wanted-gt0.true))) (λ a t. refl)) c.if_listed.result c.if_listed.ensures

pub returns-then-not-listed : goal.returns-then-not-listed
returns-then-not-listed c =
    let wide : is_some c.args.wanted.area ≡ true = ap is_some c.requires.2 in
    found-only c.args.wanted (Listed c.args.list) Ellipse (able-ellipse c.args.wanted c.requires.0 wide c.requires.1) (by-area c.args.wanted c.requires.0 wide (λ j. Listed c.args.list j → j ≡ Ellipse) (λ a t. absurd (c.if-not-listed.ensures t)) (λ a t. refl)) c.if_listed-then-not-listed.result c.if_listed-then-not-listed.ensures

pub returns-then-listed : goal.returns-then-listed
returns-then-listed c =
    let wide : is_some c.args.wanted.area ≡ true = ap is_some c.requires.2 in
    ellipse-best c.args.wanted (Listed c.args.list) c.requires.0 wide (able-ellipse c.args.wanted c.requires.0 wide c.requires.1) c.if-listed.ensures (λ a t. rw c.requires.2 c.if-area.true)

pub returns-else-listed : goal.returns-else-listed
returns-else-listed c =
    let wide : is_some c.args.wanted.area ≡ true = ap is_some c.requires.2 in
    circle-best c.args.wanted (Listed c.args.list) c.requires.0 wide (able-circle c.args.wanted c.requires.0 wide c.requires.1 (omega arith)) c.if-not-listed.ensures (λ t. absurd (c.if-listed.ensures t))

pub returns-else-area : goal.returns-else-area
returns-else-area c =
    let wide : is_some c.args.wanted.area ≡ true = ap is_some c.requires.2 in
    circle-best c.args.wanted (Listed c.args.list) c.requires.0 wide (able-circle c.args.wanted c.requires.0 wide c.requires.1 (omega arith)) c.if-not-listed.ensures (λ t. rw c.requires.2 c.if-area.false)
