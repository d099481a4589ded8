-- The record that is fetched is the message's; its codes are judged, and it has no points.
use mathlib.Core.Path.{ap, ◌∙◌}
use mathlib.Core.List.{List}
use Prim.Native.Nat.{ℕ}
use native.Mathlib.Omega.{arith}
use lib.ListN.{replicate}
use lib.Seq.{sets}
use Rattle.std.proofs.lemmas.Result.{err_from_is_err_and}
use Rattle.layout.specs.declared.shape.Shape.{Shape}
use Rattle.forming.proofs.ReadLaws.{codes-refused, done-read}
use Rattle.array_reading.proofs.IntoLaws.{refused-into, short-into, put-into, uncounted}
use Rattle.array_reading.proofs.read_outline.Goals as goal

pub returns-in_err-codes_outcome : goal.returns-in_err-codes_outcome
returns-in_err-codes_outcome c =
    let p = err_from_is_err_and c.from_residual.result c.from_residual.ensures.1 in
    rw (p.1, p.2) (refused-into _ (codes-refused _ _ _ c.requires.starts c.requires.message_form_answer _ c.shape-outline.ensures _ c.in_err-codes_outcome.ensures))

pub returns-then-codes-lt61 : goal.returns-then-codes-lt61
returns-then-codes-lt61 c =
    short-into _ (done-read _ _ _ c.requires.starts c.requires.message_form_answer _ c.shape-outline.ensures c.in_ok-codes_outcome.ensures) (omega arith)

pub returns : goal.returns
returns c =
    let a = c.args in
    put-into _ (done-read _ _ _ c.requires.starts c.requires.message_form_answer _ c.shape-outline.ensures c.in_ok-codes_outcome.ensures) 0
    (ap (λ (x : Shape). x.count) c.shape-outline.ensures ∙ uncounted a.s.now a.kind c.requires.fact) (omega arith)
    (c.clear_from.ensures ∙ ap (λ (l : List ℕ). sets l 16 (replicate 45 0)) c.put_singles.ensures)
