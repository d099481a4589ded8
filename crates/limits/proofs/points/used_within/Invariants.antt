-- Each point passed is within its fields.
use Rattle.limits.specs.Limits.{UsedWithin}
use Rattle.limits.proofs.points.used_within.Given as goal

abbrev pub invariant-loop-i : goal.invariant-loop-i
invariant-loop-i l = UsedWithin l.codes l.i
