-- By the first octet: none, a minus sign, another.
use Rattle.std.proofs.Common.{◌∙◌, arith}
use Rattle.text.proofs.NumeralLaws.{empty, minus, plain}
use Rattle.text.proofs.numeral.number_in.Goals as goal

pub returns-then-field-eq0 : goal.returns-then-field-eq0
returns-then-field-eq0 c = empty c.args.field.now c.if-field-eq0.true

pub returns-then-field-eq45 : goal.returns-then-field-eq45
returns-then-field-eq45 c = c.digits_in.ensures ∙ minus c.args.field.now (omega arith) c.if-field-eq45.true

pub returns : goal.returns
returns c = c.digits_in-2.ensures ∙ plain c.args.field.now (omega arith) c.if-field-eq45.false
