-- `one_field::coding::coded_vertical_speed` meets its contract: the code is told as it is.
use mathlib.Core.Path.{ap}
use Rattle.std.specs.Prelude.{Ok}
use Rattle.ground.specs.Answers.{done}
use Rattle.one_field.proofs.coding.coded_vertical_speed.Goals as goal

pub returns : goal.returns
returns c = record { said = done c.vertical_speed_code.result; promise = c.vertical_speed_code.ensures; told = ap Ok c.from.ensures }
