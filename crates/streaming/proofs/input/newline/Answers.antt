-- The search goes through what was read.
use Rattle.std.proofs.Common.{◌≡◌, ◌-◌, arith}
use Rattle.streaming.proofs.input.newline.Goals as goal

pub returns : goal.returns
returns c =
    let i = c.args.input in
    let e : i.source.fill - 0 ≡ i.source.fill = omega arith in
    rw (c.filled-fill.ensures, e) at c.line_end.ensures
