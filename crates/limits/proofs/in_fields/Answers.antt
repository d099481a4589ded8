-- Single fields by their numbers against the largest, points by theirs.
use mathlib.Core.Path.{◌≡◌, ap, ◌∙◌}
use Prim.Native.Nat.{ℕ}
use mathlib.Core.List.{List}
use Rattle.ground.specs.Answers.{Decides}
use Rattle.layout.specs.declared.shape.Kind.{Kind}
use native.Mathlib.Omega.{arith}
use borrow.Author.Rules.{rules}
use Rattle.ground.proofs.AnswerLaws.{shown, refuted, decided}
use Rattle.layout.specs.Layout.{count}
use Rattle.code_arrays.specs.Shapes.{array_kind, value_in}
use Rattle.limits.specs.Limits.{numbers_in, largest_of, Within}
use Rattle.code_arrays.proofs.ArrayLaws.{same-element}
use Rattle.limits.proofs.LimitLaws.{count-narrow, singles-within, elements-points, elements-in-fields}
use mathlib.Core.Bool.{Bool, true, not}
use Rattle.limits.proofs.in_fields.Goals as goal

-- what the first test has shown
passed : (elements : List ℕ) {numbers largest : List ℕ} {kind : Kind} {b : Bool} → numbers ≡ numbers_in elements → largest ≡ largest_of kind → kind ≡ array_kind elements → b ≡ true → Decides b (Within numbers largest)
    → Within (numbers_in elements) (largest_of (array_kind elements))
passed elements {numbers} {largest} {kind} {b} n l k e d =
    rw (n, l ∙ ap largest_of k) at (shown b (ap not e) d)

pub returns-then-not-within : goal.returns-then-not-within
returns-then-not-within c =
    λ h.
    let elements = c.args.codes.now in
    refuted c.within.result (ap not c.if-not-within.true) c.within.ensures
    (rw (c.numbers_in.ensures, c.largest_of.ensures ∙ ap largest_of c.requires.kind_value) (singles-within (array_kind elements) (value_in elements count) (value_in elements) h))

pub within-requires-2 : goal.within-requires-2
within-requires-2 c =
    let elements = c.args.codes.now in
    record { in_bounds = search rules; n_bound = omega (arith, same-element elements 1 (omega arith), count-narrow (array_kind elements) (value_in elements count) (value_in elements) (passed elements c.numbers_in.ensures c.largest_of.ensures c.requires.kind_value c.if-not-within.false c.within.ensures)) }

pub returns : goal.returns
returns c =
    let elements = c.args.codes.now in
    decided c.within-2.result (elements-in-fields elements (passed elements c.numbers_in.ensures c.largest_of.ensures c.requires.kind_value c.if-not-within.false c.within.ensures)) (elements-points elements) (rw (same-element elements 1 (omega arith)) at c.within-2.ensures)
