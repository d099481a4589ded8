-- After i turns the codes of i points are put; each point has its codes, since it is in range.
use mathlib.Core.Path.{◌≡◌, refl}
use native.Mathlib.Omega.{arith}
use borrow.Author.Rules.{rules}
use Rattle.array_records.proofs.PointLaws.{coded-at, kept-point, none-coded, one-put}
use Rattle.array_records.proofs.points.put_coded_points.Goals as goal

pub loop-i-init : goal.loop-i-init
loop-i-init c = (record { codes = none-coded _; put = refl }, refl)

pub unwrap-code-requires : goal.unwrap-code-requires
unwrap-code-requires c =
    let point = coded-at c.args.given.now c.loop-i.i (omega arith) (search rules) (search rules) c.code_point.result c.code_point.ensures in
    kept-point c.code_point.result (c.requires.used_kept c.loop-i.i (omega arith)) point

pub loop-i-preserved : goal.loop-i-preserved
loop-i-preserved c =
    let elements = c.args.given.now in
    let i = c.loop-i.i in
    let point = coded-at elements i (omega arith) (search rules) (search rules) c.code_point.result c.code_point.ensures in
    (rw c.put_point.ensures (one-put elements i (omega arith) c.loop-i.invariant.0 (rw c.unwrap-code.ensures at point)), search rules)

pub returns : goal.returns
returns c = let e : c.loop-i.i ≡ c.args.n = omega arith in rw e at c.loop-i.invariant.0
