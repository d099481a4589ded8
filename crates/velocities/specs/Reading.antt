-- What the parts of the reader promise, in the words of the layout table.
use Rattle.std.specs.Prelude.{◌≡◌, ℕ}
use Rattle.ground.specs.Answers.{Unless, Else0}
use Rattle.layout.specs.declared.velocity.VelocityKind.{VelocityKind}
use Rattle.layout.specs.Layout.{velocity_rows}
use Rattle.layout.specs.Rows.{length_of}
use Rattle.layout.specs.Demands.{TypeKnown}

-- 2 and 3, of a kind and a number of octets
abbrev pub VelocityFormAnswer : VelocityKind → ℕ → ℕ → Type 0
VelocityFormAnswer k octets = Unless (TypeKnown (velocity_rows k)) 2 (Unless (octets ≡ length_of (velocity_rows k)) 3 Else0)
