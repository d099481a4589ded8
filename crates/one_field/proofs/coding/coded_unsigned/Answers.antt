-- `one_field::coding::coded_unsigned` meets its contract: what a coder that never refuses says is told as it is.
use mathlib.Core.Path.{ap}
use Rattle.std.specs.Prelude.{Ok}
use Rattle.ground.specs.Answers.{done}
use Rattle.one_field.proofs.coding.coded_unsigned.Goals as goal

pub returns-in-InnerRadius : goal.returns-in-InnerRadius
returns-in-InnerRadius c = rw c.in-InnerRadius.is (record { said = done c.inner_radius_code.result; promise = c.inner_radius_code.ensures; told = ap Ok c.from-in-InnerRadius.ensures })

pub returns-in-HorizontalSpeed : goal.returns-in-HorizontalSpeed
returns-in-HorizontalSpeed c = rw c.in-HorizontalSpeed.is (record { said = done c.horizontal_speed_code.result; promise = c.horizontal_speed_code.ensures; told = ap Ok c.from-in-HorizontalSpeed.ensures })
