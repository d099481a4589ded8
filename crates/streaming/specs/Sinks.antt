-- What is known of what was written.
use Rattle.std.specs.Prelude.{◌≡◌, ℕ, ◌+◌, ◌%◌, ◌^◌, ◌≤◌, true, false, List, length, Result, IfOk}
use Rattle.streaming.specs.declared.sink.Sink.{Sink}

-- nothing is written, and the output is open
abbrev pub unwritten_yet : Sink
unwritten_yet = record { written = 0; closed = false }

-- ALL THAT IS KNOWN OF A WRITE: the text is counted where it was written whole. What the system did with it is the system's to say
pub record Wrote (text : List ℕ) (s r : Sink) : Type 0 where
  pub done : r.closed ≡ false → r.written ≡ (s.written + length text) % 2 ^ 64
  pub failed : r.closed ≡ true → r.written ≡ s.written

-- so much of the text, and no more than there is
abbrev pub WroteSome : {E : Type 0} → ℕ → Result ℕ E → Type 0
WroteSome long r = IfOk r (λ n. n ≤ long)
