-- By the sign, the digits and what stands after them.
use Rattle.request_lines.proofs.EntryLaws.{far-entry, minus-entry, plain_entry, dash-entry, empty-entry}
use borrow.Author.Rules.{rules}
use Rattle.request_lines.proofs.entries.entry_at.Goals as goal

pub returns-then-goes_on : goal.returns-then-goes_on
returns-then-goes_on c = far-entry c.past_sign-first.ensures c.digits_from-digits.ensures (c.goes_on.ensures.yes c.if-goes_on.true).0 (c.goes_on.ensures.yes c.if-goes_on.true).1 c.field_end.ensures

pub returns-then-from-first : goal.returns-then-from-first
returns-then-from-first c = minus-entry c.past_sign-first.ensures c.digits_from-digits.ensures (c.goes_on.ensures.no c.if-goes_on.false) c.if-first-end.true c.if-from-first.true (search rules)

pub returns-then-first-end : goal.returns-then-first-end
returns-then-first-end c = plain_entry c.past_sign-first.ensures c.digits_from-digits.ensures (c.goes_on.ensures.no c.if-goes_on.false) c.if-first-end.true c.if-from-first.false (search rules)

pub returns-then-from-first-2 : goal.returns-then-from-first-2
returns-then-from-first-2 c = dash-entry c.past_sign-first.ensures c.digits_from-digits.ensures (c.goes_on.ensures.no c.if-goes_on.false) c.if-first-end.false c.if-from-first-2.true

pub returns : goal.returns
returns c = empty-entry c.past_sign-first.ensures c.digits_from-digits.ensures (c.goes_on.ensures.no c.if-goes_on.false) c.if-first-end.false c.if-from-first-2.false
