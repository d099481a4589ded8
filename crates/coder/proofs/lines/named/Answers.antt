-- A name and nothing behind it, no name, or what the verb makes of what stands there.
use mathlib.Core.Path.{ap, ◌∙◌}
use mathlib.Core.List.{List, ◌∷◌}
use Prim.Native.Nat.{ℕ}
use native.Mathlib.Omega.{arith}
use Rattle.coder.specs.Names.{field_of}
use Rattle.text.proofs.LineFieldLaws.{unmarked}
use Rattle.coder.proofs.ReportLaws.{first_of}
use Rattle.coder.proofs.LineLaws.{alone-after, no-name, code-field, report-field}
use Rattle.coder.proofs.lines.named.Goals as goal

pub returns-then-end-fields : goal.returns-then-end-fields
returns-then-end-fields c = λ line word e v. alone-after line e (unmarked c.field_end-end.ensures (omega arith))

pub returns-in_default : goal.returns-in_default
returns-in_default c =
    let first = first_of c.field_end-end.ensures (omega (arith, c.field_end-end.ensures.inside, c.if-end-fields.false)) in
    λ line word e v. no-name (e ∙ ap (λ (ts : List (List ℕ)). word ∷ ts) first) c.in_default.ensures

pub returns-in-Code : goal.returns-in-Code
returns-in-Code c =
    let first = first_of c.field_end-end.ensures (omega (arith, c.field_end-end.ensures.inside, c.if-end-fields.false)) in
    λ line word e v. code-field (e ∙ ap (λ (ts : List (List ℕ)). word ∷ ts) first) (rw c.in-Code.is at v) (field_of c.in-Some.name) c.in-Some.ensures c.coded.ensures

pub returns-in-Report : goal.returns-in-Report
returns-in-Report c =
    let first = first_of c.field_end-end.ensures (omega (arith, c.field_end-end.ensures.inside, c.if-end-fields.false)) in
    λ line word e v. report-field (e ∙ ap (λ (ts : List (List ℕ)). word ∷ ts) first) (rw c.in-Report.is at v) (field_of c.in-Some.name) c.in-Some.ensures c.reported.ensures
