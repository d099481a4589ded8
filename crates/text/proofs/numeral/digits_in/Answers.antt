-- The row is the whole field, or the field goes on with no digit, or there is none.
use Rattle.std.proofs.Common.{length, sym, ap, ◌∙◌, arith, rules}
use Rattle.text.specs.Numerals.{digits_of}
use Rattle.text.proofs.NumeralLaws.{no_part, row-stopped, row-whole, all-part}
use Rattle.text.proofs.numeral.digits_in.Goals as goal

pub returns-then-digits-field : goal.returns-then-digits-field
returns-then-digits-field c =
    let a = c.args in
    let d = c.digits_from-digits.ensures in
    sym (row-stopped d.row a.negative (length a.field.now) (omega arith) (omega arith) (d.stops (omega arith)))
    ∙ ap (digits_of a.negative) (all-part a.field.now a.from (length a.field.now) (omega arith))

pub returns-then-digits-from : goal.returns-then-digits-from
returns-then-digits-from c =
    let a = c.args in
    sym (no_part a.negative a.field.now a.from) ∙ ap (digits_of a.negative) (all-part a.field.now a.from a.from (omega arith))

pub returns : goal.returns
returns c =
    let a = c.args in
    let d = c.digits_from-digits.ensures in
    sym (row-whole d.row a.negative (omega (arith, d.row.after)) (search rules))
    ∙ ap (digits_of a.negative) (all-part a.field.now a.from c.digits_from-digits.result.end (omega arith))
