-- The octets before the one in turn are put.
use Rattle.std.proofs.Common.{arith}
use Rattle.text.specs.Text.{octets_text}
use Rattle.text.proofs.OctetLaws.{octets-turn}
use Rattle.text.proofs.OutputLaws.{none}
use Rattle.text.proofs.put_octets.Goals as goal

pub loop-octet-init : goal.loop-octet-init
unfolding octets_text
loop-octet-init c = (omega arith, none)

pub loop-octet-preserved : goal.loop-octet-preserved
loop-octet-preserved c =
    let l = c.loop-octet in
    let p = c.put_octet-next.ensures in
    (omega (arith, p.place), octets-turn c.args.src.now l.octet-index c.loop-octet-test.true l.invariant.1 p)
