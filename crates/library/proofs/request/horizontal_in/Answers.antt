-- Where the orientation's element says nothing, no horizontal uncertainty is said.
use Rattle.std.proofs.lemmas.Result.{err_from_is_err_and}
use Rattle.request_lines.proofs.AmountLaws.{no-turn}
use Rattle.code_arrays.specs.QuantityNumbers.{quantity_in}
use Rattle.code_arrays.proofs.NumberLaws.{element-read}
use Rattle.library.specs.Requests.{IsMissing, SaysNatural}
use borrow.Author.Rules.{rules}
use Rattle.library.proofs.request.horizontal_in.Goals as goal

pub returns-in_err-orientation : goal.returns-in_err-orientation
returns-in_err-orientation c =
    let elements = c.args.given.now in
    rw (err_from_is_err_and c.from_residual-in_err-orientation.result c.from_residual-in_err-orientation.ensures.1).1
    (no-turn IsMissing SaysNatural (quantity_in elements 3) (quantity_in elements 4) (quantity_in elements 5) (rw (element-read {z = quantity_in elements 5} (search rules)) at c.in_err-orientation.ensures))
