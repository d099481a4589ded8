-- `quantity::signed` meets its contract: one text, or a first one and what stands behind it.
use mathlib.Core.Path.{subst}
use Prim.Native.Nat.{◌+◌, ◌-◌}
use native.Mathlib.Omega.{arith}
use lib.ListN.{length, take, drop}
use Rattle.ground.specs.declared.signs.Parts.{Parts}
use Rattle.std.specs.Prelude.{Option}
use Rattle.text.specs.Widths.{AsSize}
use Rattle.text.proofs.LineFieldLaws.{unmarked}
use Rattle.coder.proofs.ReportLaws.{one-text, first_of}
use Rattle.coder.proofs.report_text.signed.Goals as goal

pub returns-then-end-texts : goal.returns-then-end-texts
returns-then-end-texts c = one-text c.args.field (unmarked c.field_end-end.ensures (omega arith))

pub returns : goal.returns
returns c =
    let given = c.args in
    let field-end = c.field_end-end in
    let if1 = c.if-end-texts in
    let number_in = c.number_in in
    let type_size = c.size_of-sign in
    let number-in2 = c.number_in-2 in
    let size-of2 = c.size_of in
    let with-sign = c.with_sign in
    rw (first_of field-end.ensures (omega (arith, field-end.ensures.inside, if1.false))) (with-sign.ensures (take field-end.result given.texts.now) (take (length given.texts.now - (field-end.result + 1)) (drop (field-end.result + 1) given.texts.now)) (subst (λ (n : Option Parts). AsSize n type_size.result) number_in.ensures type_size.ensures) (subst (λ (n : Option Parts). AsSize n size-of2.result) number-in2.ensures size-of2.ensures))
