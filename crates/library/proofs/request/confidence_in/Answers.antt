-- By the amount.
use Rattle.std.specs.Prelude.{ℤ, Ok}
use mathlib.Core.Path.{subst}
use Rattle.request_lines.proofs.AmountLaws.{confidence-says}
use Rattle.code_arrays.proofs.NumberLaws.{element-read}
use Rattle.library.specs.Requests.{IsMissing, SaysNatural, ReadsAmountElement}
use borrow.Author.Rules.{rules}
use Rattle.library.proofs.request.confidence_in.Goals as goal

pub returns : goal.returns
returns c = confidence-says IsMissing SaysNatural c.args.element c.in_ok-amount_in.field-0 c.map.result c.map.ensures.cases (subst (λ (z : ℤ). ReadsAmountElement z (Ok c.in_ok-amount_in.field-0)) (element-read {z = c.args.element} (search rules)) c.in_ok-amount_in.ensures)
