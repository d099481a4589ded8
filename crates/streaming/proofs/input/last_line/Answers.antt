-- A line, where anything is left or was dropped.
use Rattle.std.proofs.Common.{T, sym, refl, ◌∙◌, subst, rules}
use Rattle.streaming.specs.Inputs.{line, none}
use Rattle.streaming.proofs.input.last_line.Goals as goal

pub returns-then-input : goal.returns-then-input
returns-then-input c = line (rw c.filled-fill.ensures at c.cut.ensures) (λ e. absurd (subst T (sym c.if-input.true ∙ e) tt))

pub returns-then-input-fill : goal.returns-then-input-fill
returns-then-input-fill c = line (rw c.filled-fill.ensures at c.cut-then-input-fill.ensures) (λ e. search rules)

pub returns : goal.returns
returns c = none (search rules) c.if-input.false refl
