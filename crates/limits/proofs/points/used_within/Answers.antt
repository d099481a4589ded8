-- Each point passed is within its fields.
use mathlib.Core.Path.{sym, ap, ◌∙◌}
use native.Mathlib.Omega.{arith}
use borrow.Author.Count.{below_more}
use Rattle.octets.specs.Codes.{complement}
use Rattle.code_arrays.proofs.ArrayLaws.{south-element, latitude-element, longitude-element}
use Rattle.limits.proofs.points.used_within.Goals as goal

pub returns-then-codes-at-gt1 : goal.returns-then-codes-at-gt1
returns-then-codes-at-gt1 c = λ p. omega (arith, c.if-codes-at-gt1.true, south-element c.args.codes.now c.loop-i.i (omega arith), (p c.loop-i.i (omega arith)).sign)

pub returns-then-codes-at-gt8388607 : goal.returns-then-codes-at-gt8388607
returns-then-codes-at-gt8388607 c = λ p. omega (arith, c.if-codes-at-gt8388607.true, latitude-element c.args.codes.now c.loop-i.i (omega arith), (p c.loop-i.i (omega arith)).size)

pub returns-then-complement_of-gt16777215 : goal.returns-then-complement_of-gt16777215
returns-then-complement_of-gt16777215 c =
    λ p.
    let e = longitude-element c.args.codes.now c.loop-i.i (omega arith) ∙ ap complement (sym c.longitude_of.ensures) ∙ sym c.complement_of.ensures in
    omega (arith, (p c.loop-i.i (omega arith)).turn)

pub loop-i-preserved : goal.loop-i-preserved
loop-i-preserved c =
    let elements = c.args.codes.now in
    let i = c.loop-i.i in
    let s = south-element elements i (omega arith) in
    let l = latitude-element elements i (omega arith) in
    let t = longitude-element elements i (omega arith) ∙ ap complement (sym c.longitude_of.ensures) ∙ sym c.complement_of.ensures in
    below_more _ _ c.loop-i.invariant (record { sign = omega arith; size = omega arith; turn = omega arith })

pub returns : goal.returns
returns c = λ i h. c.loop-i.invariant i (omega arith)
