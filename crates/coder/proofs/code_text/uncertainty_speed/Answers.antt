-- `codes::uncertainty_speed` meets its contract: the text is a dash, or a number that is given.
use Rattle.std.specs.Prelude.{None}
use Rattle.text.proofs.LineFieldLaws.{dash-uncut}
use Rattle.coder.specs.FieldTexts.{coded}
use Rattle.coder.proofs.CodeLaws.{untrue}
use Rattle.coder.proofs.code_text.uncertainty_speed.Goals as goal

pub returns-then-same : goal.returns-then-same
returns-then-same c = let dash = c.same.ensures.0 c.if-same.true in coded {x = None} (dash-uncut dash) dash c.coded_missing.ensures c.line_of_code.ensures

pub returns : goal.returns
returns c = c.unsigned.ensures (untrue c.if-same.false c.same.ensures.1)
