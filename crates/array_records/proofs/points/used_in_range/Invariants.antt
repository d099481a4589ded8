-- The points passed have their codes; one that has none is out of range.
use Rattle.array_records.specs.Records.{UsedCodes}
use Rattle.array_records.proofs.points.used_in_range.Given as goal

abbrev pub invariant-loop-i : goal.invariant-loop-i
invariant-loop-i l = UsedCodes l.given l.i
