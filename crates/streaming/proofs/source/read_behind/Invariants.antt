-- What stood before the read is as it was, however often it was tried.
use Rattle.streaming.proofs.SourceLaws.{SameFront}
use Rattle.streaming.proofs.source.read_behind.Given as goal

abbrev pub invariant-loop : goal.invariant-loop
invariant-loop l = SameFront l.kept l.initial.buf l.buf
