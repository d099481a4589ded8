-- What was dropped made the line long.
use Rattle.std.proofs.Common.{T, sym, ◌∙◌, subst}
use Rattle.streaming.proofs.input.is_long.Goals as goal

pub returns-then-dropped : goal.returns-then-dropped
returns-then-dropped c = record {
  short = λ e. absurd (subst T e tt);
  long = λ e d. absurd (subst T (sym c.if-dropped.true ∙ d) tt);
}
