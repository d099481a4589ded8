-- The complement of no bits is 0.
use mathlib.Core.Path.{refl}
use Rattle.octets.specs.Codes.{from_complement}
use Rattle.layout.proofs.shape.blank_shape.Goals as goal

pub returns : goal.returns
unfolding from_complement
returns c = refl
