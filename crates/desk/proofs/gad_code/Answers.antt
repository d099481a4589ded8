-- The quantity that crosses the border is the one that is given.
use mir.Syntax.{w64}
use mir.Facts.{to_z-of_z}
use borrow.Author.Rules.{rules}
use Rattle.desk.proofs.gad_code.Goals as goal

pub returns : goal.returns
returns c =
    rw (to_z-of_z {w = w64} {z = c.code.result.0} (search rules), ← to_z-of_z {w = w64} {z = c.args.quantity} (search rules)) c.code.ensures
