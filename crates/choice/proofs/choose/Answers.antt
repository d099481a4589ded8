-- What is written for the codes is what the choice promises; the refusals are those of coding.
use Rattle.std.proofs.lemmas.Result.{err_from_is_err_and}
use Rattle.requests.specs.Choice.{Listed, refuses}
use Rattle.choice.proofs.WritingLaws.{chosen_of, refused-of}
use Rattle.choice.proofs.choose.Goals as goal

pub returns : goal.returns
returns c = let p = c.in_ok-codes.ensures in chosen_of c.args.request (Listed c.args.list) c.args.out.now _ p.0 p.1 p.2 c.write_best.ensures

pub returns-in_err-codes : goal.returns-in_err-codes
returns-in_err-codes c =
    let p = err_from_is_err_and c.from_residual.result c.from_residual.ensures.1 in
    rw (p.1, p.2) (refuses (refused-of c.args.request (Listed c.args.list) c.args.out.now _ c.in_err-codes.ensures))
