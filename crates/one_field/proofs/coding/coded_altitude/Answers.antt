-- `one_field::coding::coded_altitude` meets its contract: the code is told as it is.
use mathlib.Core.Path.{ap}
use Rattle.std.specs.Prelude.{Ok}
use Rattle.ground.specs.Answers.{done}
use Rattle.one_field.proofs.coding.coded_altitude.Goals as goal

pub returns : goal.returns
returns c = record { said = done c.altitude_code.result; promise = c.altitude_code.ensures; told = ap Ok c.from.ensures }
