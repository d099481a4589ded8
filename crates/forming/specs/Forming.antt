-- What the parts of the reader promise, in the words of the layout table.
use Rattle.std.specs.Prelude.{◌≡◌, ℕ}
use Rattle.ground.specs.Answers.{Unless, Else0}
use Rattle.layout.specs.declared.shape.Kind.{Kind}
use Rattle.layout.specs.Layout.{shape_rows}
use Rattle.layout.specs.Rows.{length_of}
use Rattle.layout.specs.Demands.{TypeKnown, CountSound}

-- 3, of the length of a message and a number of octets
abbrev pub LengthAnswer : ℕ → ℕ → ℕ → Type 0
LengthAnswer whole octets = Unless (octets ≡ whole) 3 Else0

-- 2, 4 and 3, of a kind, a count n and a number of octets
abbrev pub MessageFormAnswer : Kind → ℕ → ℕ → ℕ → Type 0
MessageFormAnswer k n octets =
    Unless (TypeKnown (shape_rows k n)) 2 (Unless (CountSound (shape_rows k n) (λ f. n)) 4 (LengthAnswer (length_of (shape_rows k n)) octets))
