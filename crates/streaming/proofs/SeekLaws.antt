-- The search for the end of a line: what was dropped of it, and what is held.
use Rattle.std.proofs.Common.{◌≡◌, ℕ, ◌+◌, ◌-◌, ◌<◌, ◌≤◌, Bool, true, false, T, List, [], ◌∷◌, ◌++◌, length, get_or, take, drop, sym, refl, ◌∙◌, subst, append-nil, arith, length-append, length-drop, length-take-le, get_or-drop, drop-cons, get_or-take}
use Rattle.text.specs.Marks.{FirstMark}
use Rattle.streaming.specs.declared.input.Input.{Input}
use Rattle.streaming.specs.Sources.{octets_from, Goes, here, reads}
use Rattle.streaming.specs.Lines.{NoNewline}
use Rattle.streaming.specs.Inputs.{SoundInput, longest_line, line_in, Line, newline, over, LineTaken, NoLine, nothing, many, failed, HeldLine, NextLine, Started, Cut, LastLine, line, none, Drops, same, dropped, Shortened, Refilled}
use Rattle.streaming.proofs.SourceLaws.{take-to}
use Rattle.streaming.proofs.LineLaws.{no-newlines}

never : {A : Type 0} {b : Bool} → b ≡ true → b ≡ false → A
never p q = absurd (subst T (sym p ∙ q) tt)

-- WHERE THE SEARCH STANDS: `front` was dropped of the line, which goes on with what is held; each of the reads that are done, but the last, brought an octet
pub record Seeking (start block : List ℕ) (before i : Input) (done : ℕ) : Type 0 where
  pub read : List ℕ
  pub front : List ℕ
  pub goes : Goes start before.taken before.source block i.taken i.source read front
  pub clean : NoNewline front
  pub none_dropped : i.long ≡ false → front ≡ []
  pub too_long : i.long ≡ true → longest_line < length front
  pub each : i.source.over ≡ false → done ≤ length read
  pub most : done ≤ length read + 1

no-octets : NoNewline []
no-octets = record { none = λ k h e. absurd (omega arith) }

pub seek-start : {block : List ℕ} {i : Input} → i.long ≡ false → Seeking block block i i 0
seek-start short = record {
  read = [];
  front = [];
  goes = here;
  clean = no-octets;
  none_dropped = λ _. refl;
  too_long = λ e. never e short;
  each = λ _. omega arith;
  most = omega arith;
}

-- the search starts where the line before left off
pub next-same : {start block : List ℕ} {before i r : Input} → i.source ≡ before.source → i.taken ≡ before.taken → NextLine start block i r → NextLine start block before r
next-same {start} {block} {before} {i} {r} same_source same_taken n = record { sound = n.sound; line = λ e. line_from (n.line e); none = λ e. none_from (n.none e) }
  where
    line_from : LineTaken start block i r → LineTaken start block before r
    line_from l = record { read = l.read; line = l.line; mark = l.mark; goes = rw (← same_source, ← same_taken) l.goes; whole = l.whole; ended = l.ended; is = l.is }

    none_from : NoLine start block i r → NoLine start block before r
    none_from (nothing {read} g o e) = nothing {read = read} (rw (← same_source, ← same_taken) g) o e
    none_from (many {read} {taken} g h) = many {read = read} {taken = taken} (rw (← same_source, ← same_taken) g) h
    none_from (failed {read} {taken} g h) = failed {read = read} {taken = taken} (rw (← same_source, ← same_taken) g) h

pub next-from : {start block : List ℕ} {before i r : Input} → Started before i → NextLine start block i r → NextLine start block before r
next-from s = next-same s.same_source s.same_taken

-- the octets from `taken` up to `end`
module _ {start block : List ℕ} {before i : Input} {done : ℕ} (s : Seeking start block before i done) (end : ℕ)
    (after : i.taken ≤ end) (inside : end ≤ i.source.fill) (fits : i.source.fill ≤ length block)
    (no-newline : (k : ℕ) → k < end → i.taken ≤ k → get_or block k 0 ≡ 10 → ⊥) where
  abbrev part : List ℕ
  part = take (end - i.taken) (drop i.taken block)

  part_length : length part ≡ end - i.taken
  part_length = length-take-le (end - i.taken) (drop i.taken block) (omega (arith, length-drop i.taken block))

  pub part-clean : NoNewline part
  part-clean = record {
    none = λ k h e.
        let l : k < end - i.taken = omega (arith, part_length) in
        no-newline (i.taken + k) (omega arith) (omega arith) (sym (get_or-take (end - i.taken) (drop i.taken block) k 0 l ∙ get_or-drop i.taken block k 0) ∙ e);
  }

  pub taken_to : Goes start before.taken before.source block end i.source s.read (s.front ++ part)
  taken_to = take-to s.goes end after inside

  -- the line that is cut off there
  line-is : {taken : ℕ} {r : Input} → Cut i end taken r → Line block r (s.front ++ part)
  line-is {taken} {r} c = record { kept = kept; short = short; long = long i.long refl }
    where
      kept : r.long ≡ false → line_in block r ≡ s.front ++ part
      kept e = rw (s.none_dropped (c.length_told.short e).0, c.line_from, c.line_end)

      short : r.long ≡ false → length (s.front ++ part) ≤ longest_line
      short e = rw (s.none_dropped (c.length_told.short e).0, part_length) (c.length_told.short e).1

      long : (b : Bool) → i.long ≡ b → r.long ≡ true → longest_line < length (s.front ++ part)
      long true e t = omega (arith, s.too_long e, length-append s.front part)
      long false e t = omega (arith, c.length_told.long t e, part_length, length-append s.front part)

  line_clean : NoNewline (s.front ++ part)
  line_clean = no-newlines s.clean part-clean

  -- a newline stands at its end
  pub line-found : {r : Input} → end < i.source.fill → get_or block end 0 ≡ 10 → Cut i end (end + 1) r → LineTaken start block before r
  line-found {r} h e c = record {
    read = s.read;
    line = s.front ++ part;
    mark = 10 ∷ [];
    goes = rw (c.same_source, c.taken_to) (subst (λ (l : List ℕ). Goes start before.taken before.source block (end + 1) i.source s.read ((s.front ++ part) ++ l)) mark (take-to taken_to (end + 1) (omega arith) (omega arith)));
    whole = line_clean;
    ended = newline;
    is = line-is c;
  }
    where
      mark : take (end + 1 - end) (drop end block) ≡ 10 ∷ []
      mark =
          let n : end + 1 - end ≡ 1 = omega arith in
          rw (n, drop-cons block end 0 (omega arith), e)

  -- the input is over there
  line-over : {r : Input} → end ≡ i.source.fill → i.source.over ≡ true → (i.long ≡ false → i.taken < end) → Cut i end end r → LineTaken start block before r
  line-over {r} e o some c = record {
    read = s.read;
    line = s.front ++ part;
    mark = [];
    goes = rw (c.same_source, c.taken_to, append-nil) taken_to;
    whole = line_clean;
    ended = over (rw c.same_source o) (c.taken_to ∙ e ∙ rw c.same_source) (by i.long refl);
    is = line-is c;
  }
    where
      by : (b : Bool) → i.long ≡ b → 0 < length (s.front ++ part)
      by true e = omega (arith, s.too_long e, length-append s.front part)
      by false e = omega (arith, some e, part_length, length-append s.front part)

-- what the search for a newline says of the octets held
module _ (block : List ℕ) (i : Input) {end : ℕ} (fits : i.source.fill ≤ length block) (f : FirstMark 10 (take i.source.fill block) i.taken end) where
  pub within : end ≤ i.source.fill
  within = omega (arith, f.inside, length-take-le i.source.fill block fits)

  pub none_before : (k : ℕ) → k < end → i.taken ≤ k → get_or block k 0 ≡ 10 → ⊥
  none_before k l m e = f.first k l m (get_or-take i.source.fill block k 0 (omega (arith, within)) ∙ e)

  pub found-there : end < i.source.fill → get_or block end 0 ≡ 10
  found-there h = sym (get_or-take i.source.fill block end 0 h) ∙ f.found (omega (arith, length-take-le i.source.fill block fits))

module _ {start block : List ℕ} {before i : Input} {done : ℕ} (s : Seeking start block before i done) (fits : i.source.fill ≤ length block) where
  -- a line with its newline
  pub next-found : {end : ℕ} {r : Input} → FirstMark 10 (take i.source.fill block) i.taken end → end < i.source.fill → Cut i end (end + 1) r → NextLine start block before r
  next-found {end} {r} f h c = record {
    sound = c.sound;
    line = λ _. line-found s end f.after (within block i fits f) fits (none_before block i fits f) h (found-there block i fits f h) c;
    none = λ e. never c.is_ready e;
  }

  -- the last line, or none
  pub next_last : {end : ℕ} {r : Input} → SoundInput i → i.ready ≡ false → FirstMark 10 (take i.source.fill block) i.taken end → i.source.fill ≤ end → i.source.over ≡ true → LastLine i r → NextLine start block before r
  next_last {end} {r} sound not_ready f h o (line c some) =
      let e : end ≡ i.source.fill = omega (arith, within block i fits f) in
      record {
        sound = c.sound;
        line = λ _. line-over s i.source.fill (omega (arith, f.after)) (omega arith) fits (rw e at (none_before block i fits f)) refl o some c;
        none = λ x. never c.is_ready x;
      }
  next_last {end} {r} sound not_ready f h o (none t short e) =
      subst (λ (r : Input). NextLine start block before r) (sym e)
      (record {
        sound = sound;
        line = λ x. never x not_ready;
        none = λ _. nothing (rw (s.none_dropped short) at s.goes) o t;
      })

  -- what is held is dropped, where it is too much
  seek-shorter : {m : Input} → NoNewline (octets_from block i.taken i.source) → SoundInput i → Drops i m → Seeking start block before m done
  seek-shorter clean sound (same e) = rw e s
  seek-shorter {m} clean sound (dropped more e t l) = record {
    read = s.read;
    front = s.front ++ octets_from block i.taken i.source;
    goes = rw (e, t) (take-to s.goes i.source.fill sound.order (omega arith));
    clean = no-newlines s.clean clean;
    none_dropped = λ x. never l x;
    too_long = λ _. omega (arith, length-append s.front (octets_from block i.taken i.source), length-take-le (i.source.fill - i.taken) (drop i.taken block) (omega (arith, length-drop i.taken block, sound.order)));
    each = rw e s.each;
    most = s.most;
  }

-- too many reads
pub next-many : {start block : List ℕ} {before i : Input} {done : ℕ} → Seeking start block before i done → SoundInput i → i.ready ≡ false → 4611686018427387905 ≤ done → NextLine start block before i
next-many s sound not_ready e = record { sound = sound; line = λ x. never x not_ready; none = λ _. many s.goes (omega (arith, s.most)) }

-- a read failed
pub next-failed : {start block : List ℕ} {before i : Input} {done : ℕ} → Seeking start block before i done → SoundInput i → i.ready ≡ false → i.source.failed ≡ true → NextLine start block before i
next-failed s sound not_ready e = record { sound = sound; line = λ x. never x not_ready; none = λ _. failed s.goes e }

-- the line that is held, and none
pub held_found : {block : List ℕ} {i r : Input} → NextLine block block i r → r.ready ≡ true → r.source ≡ i.source → HeldLine block i r
held_found n e s = record { sound = n.sound; line = n.line; same_source = s; same_taken = λ x. never e x }

pub held_none : {block : List ℕ} {i r : Input} → Started i r → HeldLine block i r
held_none s = record { sound = s.sound; line = λ x. never x s.not_ready; same_source = s.same_source; same_taken = λ _. s.same_taken }

-- more is read
seek-more : {start block after : List ℕ} {before i r : Input} {done : ℕ} → Seeking start block before i done → i.source.over ≡ false → Refilled block after i r → Seeking start after before r (done + 1)
seek-more {start} {block} {after} {before} {i} {r} {done} s o f =
    let piece : List ℕ = drop (i.source.fill - i.taken) (octets_from after 0 r.source) in
    let long = length-append s.read piece in
    record {
      read = s.read ++ piece;
      front = s.front;
      goes = rw f.start (reads s.goes o f.read);
      clean = s.clean;
      none_dropped = λ e. s.none_dropped (sym f.same_long ∙ e);
      too_long = λ e. s.too_long (sym f.same_long ∙ e);
      each = λ e. omega (arith, s.each o, f.read.grown e, length-drop (i.source.fill - i.taken) (octets_from after 0 r.source), length-take-le (r.source.fill - 0) (drop 0 after) (omega (arith, f.read.inside)));
      most = omega (arith, s.each o);
    }

-- a turn of the search
pub seek-turn : {start block after : List ℕ} {before i m r : Input} {done end : ℕ} → Seeking start block before i done → SoundInput i → i.source.fill ≤ length block
    → FirstMark 10 (take i.source.fill block) i.taken end → i.source.fill ≤ end → i.source.over ≡ false → Shortened i m → Refilled block after m r → Seeking start after before r (done + 1)
seek-turn {start} {block} {after} {before} {i} {m} {r} {done} {end} s sound fits f all o short more =
    let e : end ≡ i.source.fill = omega (arith, within block i fits f) in
    let clean : NoNewline (octets_from block i.taken i.source) = whole e in
    seek-more (seek-shorter s fits clean sound short.drops) (same_over short.drops) more
  where
    whole : end ≡ i.source.fill → NoNewline (octets_from block i.taken i.source)
    whole e = part-clean s i.source.fill sound.order (omega arith) fits (rw e at (none_before block i fits f))

    same_over : Drops i m → m.source.over ≡ false
    same_over (same x) = rw x o
    same_over (dropped a b c d) = rw b o
