-- The steps of a run that answers lines, and what a whole run has answered.
use Rattle.std.proofs.Common.{◌≡◌, ℕ, ◌+◌, ◌-◌, ◌<◌, ◌≤◌, true, false, T, List, [], ◌∷◌, ◌++◌, length, drop, sym, refl, ap, ◌∙◌, subst, append_assoc, append-nil, arith, length-append}
use lib.Seq.{drop-append_seam}
use Rattle.text.specs.AnswerLines.{end_text}
use Rattle.streaming.specs.declared.input.Input.{Input}
use Rattle.streaming.specs.declared.output.Output.{Output}
use Rattle.streaming.specs.declared.output.Run.{Run}
use Rattle.streaming.specs.Sources.{octets_from, Goes, here}
use Rattle.streaming.specs.Lines.{lines_of}
use Rattle.streaming.specs.Inputs.{no_input, SoundInput, Mark, newline, LineTaken, NoLine, nothing, most_octets}
use Rattle.streaming.specs.Inputs as inputs
use Rattle.streaming.specs.Outputs.{no_output, SoundOutput, PutOut, Kept, NoneOfRun, NextOfRun, WritesEnd}
use Rattle.streaming.specs.Outputs as outputs
use Rattle.streaming.specs.Answering.{LinesRead, Taken, Stops, closed, over, many, failed, Answers, none, more, AnswerPut, Answering, Stopped, Ran}
use Rattle.streaming.proofs.SourceLaws.{goes_parts, goes_over, goes_then}
use Rattle.streaming.proofs.LineLaws.{line_first, line-last, no_lines, few-lines}
use Rattle.streaming.proofs.OutputLaws.{put-nothing, put-kept}

-- ---- the lines

abbrev held : List ℕ → Input → List ℕ
held block i = octets_from block i.taken i.source

none-held : (block : List ℕ) (i : Input) → i.taken ≡ i.source.fill → held block i ≡ []
none-held block i e = let z : i.source.fill - i.taken ≡ 0 = omega arith in rw z

-- ---- the first lines

pub none-taken : (block : List ℕ) {i : Input} → i ≡ no_input → SoundInput i × Taken [] block block i
none-taken block e =
    subst (λ (i : Input). SoundInput i × Taken [] block block i) (sym e) (
      record { order = omega arith; block = omega arith; line = omega arith; inside = omega arith },
      record {
        asked = record { read = []; taken = []; lines = []; dropped = []; goes = here; parts = λ later all. refl };
        these = refl;
        whole = refl;
      },
    )

module _ {start block : List ℕ} {i : Input} (l : LinesRead start block i) (whole : l.dropped ≡ []) (after : List ℕ) (j : Input) where
  -- whatever comes later stands behind what is held
  on : {read taken : List ℕ} → Goes block i.taken i.source after j.taken j.source read taken → (later : List ℕ) → (j.source.over ≡ true → later ≡ [])
      → lines_of ((l.read ++ read) ++ later) ≡ l.lines ++ lines_of (taken ++ (held after j ++ later))
  on {read} {taken} g later all =
      let none_more : i.source.over ≡ true → read ++ later ≡ [] = λ e. rw ((goes_over g e).1, all (goes_over g e).0) in
      rw (append_assoc l.read read later) (l.parts (read ++ later) none_more)
      ∙ ap (λ (s : List ℕ). l.lines ++ lines_of s)
      (ap (λ (d : List ℕ). d ++ (held block i ++ (read ++ later))) whole ∙ sym (append_assoc (held block i) read later) ∙ ap (λ (s : List ℕ). s ++ later) (goes_parts g) ∙ append_assoc taken (held after j) later)

  -- a line more
  pub line_read : LineTaken block after i j → LinesRead start after j
  line_read t = record {
    read = l.read ++ t.read;
    taken = l.taken ++ (t.line ++ t.mark);
    lines = l.lines ++ t.line ∷ [];
    dropped = [];
    goes = goes_then l.goes t.goes;
    parts = λ later all. on t.goes later all ∙ by t.mark t.ended later all ∙ sym (append_assoc l.lines (t.line ∷ []) (lines_of (held after j ++ later)));
  }
    where
      by : (mark : List ℕ) → Mark j t.line mark → (later : List ℕ) → (j.source.over ≡ true → later ≡ [])
          → l.lines ++ lines_of ((t.line ++ mark) ++ (held after j ++ later)) ≡ l.lines ++ (t.line ∷ lines_of (held after j ++ later))
      by mark newline later all =
          ap (λ (s : List (List ℕ)). l.lines ++ s) (rw (append_assoc t.line (10 ∷ []) (held after j ++ later)) (line_first t.line (held after j ++ later) t.whole))
      by mark (inputs.over o e some) later all =
          ap (λ (s : List (List ℕ)). l.lines ++ s)
          (rw (all o, none-held after j e, append-nil, append-nil, no_lines) (line-last t.line t.whole some))

  -- no line more
  pub record NoMore (o : Output) : Type 0 where
    pub asked : LinesRead start after j
    pub same : asked.lines ≡ l.lines
    pub stops : Stops asked o

  pub no_line : (o : Output) → NoLine block after i j → NoMore o
  no_line o (nothing {read} g e f) = record {
    asked = record { read = l.read ++ read; taken = l.taken ++ []; lines = l.lines; dropped = []; goes = goes_then l.goes g; parts = on g };
    same = refl;
    stops = over e f refl;
  }
  no_line o (inputs.many {read} {taken} g most) = record {
    asked = record { read = l.read ++ read; taken = l.taken ++ taken; lines = l.lines; dropped = taken; goes = goes_then l.goes g; parts = on g };
    same = refl;
    stops = many (omega (arith, most, length-append l.read read));
  }
  no_line o (inputs.failed {read} {taken} g e) = record {
    asked = record { read = l.read ++ read; taken = l.taken ++ taken; lines = l.lines; dropped = taken; goes = goes_then l.goes g; parts = on g };
    same = refl;
    stops = failed e;
  }

-- nothing is taken since
lines-as : {start block after : List ℕ} {i j : Input} → LinesRead start block i → after ≡ block → j.source ≡ i.source → j.taken ≡ i.taken → LinesRead start after j
lines-as {start} {block} {after} {i} {j} l e s t = record { read = l.read; taken = l.taken; lines = l.lines; dropped = l.dropped; goes = rw (e, s, t) l.goes; parts = rw (e, s, t) l.parts }

-- the first line is taken
pub line_taken : {start block after : List ℕ} {i j : Input} → Taken [] start block i → (t : LineTaken block after i j) → Taken (t.line ∷ []) start after j
unfolding line_read
line_taken {after = after} {j = j} n t = record {
  asked = line_read n.asked n.whole after j t;
  these = ap (λ (l : List (List ℕ)). l ++ t.line ∷ []) n.these;
  whole = refl;
}

-- no more lines are taken than octets are read
pub few-taken : {start block : List ℕ} {i : Input} (l : LinesRead start block i) → length l.lines ≤ length l.read
few-taken {start} {block} {i} l =
    let e = l.parts [] (λ _. refl) in
    let n = few-lines l.read in
    omega (arith, length-append l.lines (lines_of (l.dropped ++ (held block i ++ []))), ap length (rw append-nil at e))

-- ---- the answers

-- nothing is put, answered or written
pub record Empty (out : List ℕ) (o : Output) : Type 0 where
  pub sound : SoundOutput o
  pub is_open : o.sink.closed ≡ false
  pub none : o.answered ≡ 0
  pub put : PutOut [] out o

pub empty-output : {o : Output} (out : List ℕ) → o ≡ no_output → Empty out o
empty-output out e = subst (Empty out) (sym e) (record { sound = record { answers = omega arith }; is_open = refl; none = refl; put = put-nothing out })

-- it may be written, which changes nothing
pub still-empty : {out : List ℕ} {o r : Output} → Empty out o → Kept out o r → r.answered ≡ o.answered → SoundOutput r → r.sink.closed ≡ false → Empty out r
still-empty e kept count sound is-on = record { sound = sound; is_open = is-on; none = count ∙ e.none; put = put-kept e.is_open e.put kept }

-- a run that goes on
pub record GoesOn (Answer : ℕ → List ℕ → List ℕ → Type 0) (first : List (List ℕ)) (start block out : List ℕ) (i : Input) (o : Output) : Type 0 where
  pub at : Answering Answer first start block out i o
  pub whole : at.asked.dropped ≡ []

module _ {Answer : ℕ → List ℕ → List ℕ → Type 0} where
  answers-more : {n : ℕ} {lines : List (List ℕ)} {text line t : List ℕ} → Answers Answer n lines text → Answer (n + length lines + 1) line t
      → Answers Answer n (lines ++ line ∷ []) (text ++ t)
  answers-more {n} {line = line} {t = t} none a =
      let e : n + 0 + 1 ≡ n + 1 = omega arith in
      subst (λ (u : List ℕ). Answers Answer n (line ∷ []) u) (append-nil t) (more (rw e at a) none)
  answers-more {n} {line = line} {t = t} (more {line = l} {t = u} {text = text} {lines = lines} b rest) a =
      let e : n + length (l ∷ lines) + 1 ≡ n + 1 + length lines + 1 = omega arith in
      subst (λ (v : List ℕ). Answers Answer n (l ∷ (lines ++ line ∷ [])) v) (sym (append_assoc u text t)) (more b (answers-more rest (rw e at a)))

  -- nothing is answered after the first lines
  pub begun : {first : List (List ℕ)} {start block out : List ℕ} {i : Input} {o : Output} → Taken first start block i → Empty out o → GoesOn Answer first start block out i o
  begun {first} t e = record {
    at = record { asked = t.asked; lines = []; text = []; these = t.these ∙ sym (append-nil first); answers = none; count = e.none; put = e.put };
    whole = t.whole;
  }

  module _ {first : List (List ℕ)} {start block out : List ℕ} {i : Input} {o : Output} (g : GoesOn Answer first start block out i o) where
    -- an answer more
    pub one_more : {after out' : List ℕ} {j : Input} {r : Output} → LineTaken block after i j → AnswerPut Answer after out out' j o r → GoesOn Answer first start after out' j r
    unfolding line_read
    one_more {after} {out'} {j} {r} t a = record {
      at = record {
        asked = line_read g.at.asked g.whole after j t;
        lines = g.at.lines ++ t.line ∷ [];
        text = g.at.text ++ a.text;
        these = ap (λ (l : List (List ℕ)). l ++ t.line ∷ []) g.at.these ∙ append_assoc first g.at.lines (t.line ∷ []);
        answers = answers-more g.at.answers (subst (λ (n : ℕ). Answer (n + 1) t.line a.text) (g.at.count ∙ omega arith) (a.answer t.line t.is));
        count = a.count ∙ omega (arith, g.at.count, length-append g.at.lines (t.line ∷ []));
        put = a.put g.at.text g.at.put;
      };
      whole = refl;
    }

    -- the answers are as they were, or they are written
    pub goes_kept : {r : Output} → o.sink.closed ≡ false → r.answered ≡ o.answered → Kept out o r → GoesOn Answer first start block out i r
    goes_kept {r} is-on count kept = record {
      at = record { asked = g.at.asked; lines = g.at.lines; text = g.at.text; these = g.at.these; answers = g.at.answers; count = count ∙ g.at.count; put = put-kept is-on g.at.put kept };
      whole = g.whole;
    }

    -- no line is left
    pub none_left : {after : List ℕ} {j : Input} → SoundOutput o → NoLine block after i j → Stopped Answer first start after out (record { input = j; output = o })
    none_left {after} {j} sound n =
        let m = no_line g.at.asked g.whole after j o n in
        record {
          at = record { asked = m.asked; lines = g.at.lines; text = g.at.text; these = m.same ∙ g.at.these; answers = g.at.answers; count = g.at.count; put = g.at.put };
          stops = m.stops;
          sound = sound;
        }

    -- the output is closed
    pub is-closed : SoundOutput o → o.sink.closed ≡ true → Stopped Answer first start block out (record { input = i; output = o })
    is-closed sound e = record { at = g.at; stops = closed e; sound = sound }

    -- more lines than a run answers
    pub too_many : SoundOutput o → most_octets ≤ o.answered → Stopped Answer first start block out (record { input = i; output = o })
    too_many sound h = record {
      at = g.at;
      stops = many (omega (arith, h, g.at.count, few-taken g.at.asked, ap length g.at.these, length-append first g.at.lines));
      sound = sound;
    }

  -- a run without a next line
  pub none-of-run : {first : List (List ℕ)} {start block after out : List ℕ} {s r : Run} → GoesOn Answer first start block out s.input s.output → s.output.sink.closed ≡ false
      → NextOfRun block after out s r → r.input.ready ≡ false → Stopped Answer first start after out r
  unfolding lines-as
  none-of-run {first} {start} {block} {after} {out} {s} {r} g is-on n e = by (n.none e)
    where
      kept : GoesOn Answer first start block out s.input r.output
      kept = goes_kept g is-on n.same_count n.kept

      by : NoneOfRun block after s.input r → Stopped Answer first start after out r
      by (outputs.none l) = none_left kept n.sound_output l
      by (outputs.shut c b x y) = record {
        at = record { asked = lines-as kept.at.asked b x y; lines = kept.at.lines; text = kept.at.text; these = kept.at.these; answers = kept.at.answers; count = kept.at.count; put = kept.at.put };
        stops = closed c;
        sound = n.sound_output;
      }

  -- the last line
  pub ran : {first : List (List ℕ)} {start block out out' : List ℕ} {s r : Run} → Stopped Answer first start block out s → WritesEnd out out' s r → Ran Answer first start block out' r
  ran {first} {start} {block} {out} {out'} {s} {r} a w =
      subst (λ (i : Input). Ran Answer first start block out' (record { input = i; output = r.output })) (sym w.same_input)
      (record {
        asked = a.at.asked;
        lines = a.at.lines;
        text = a.at.text;
        these = a.at.these;
        answers = a.at.answers;
        count = w.same_count ∙ a.at.count;
        stops = by a.stops;
        put = rw a.at.count at (w.text a.at.text a.at.put);
        all = w.none_left;
      })
    where
      by : Stops a.at.asked s.output → Stops a.at.asked r.output
      by (closed e) = closed (w.stays_closed e)
      by (over e f d) = over e f d
      by (many h) = many h
      by (failed e) = failed e

  -- ---- WHAT A WHOLE RUN HAS ANSWERED

  -- the answers to these lines have one text, where a line has one answer
  pub answers_one : ((n : ℕ) (line t u : List ℕ) → Answer n line t → Answer n line u → t ≡ u) → {n : ℕ} {lines : List (List ℕ)} {t u : List ℕ}
      → Answers Answer n lines t → Answers Answer n lines u → t ≡ u
  answers_one one none none = refl
  answers_one one (more a p) (more b q) = let e = one _ _ _ _ a b in let f = answers_one one p q in cc

  module _ {first : List (List ℕ)} {start block out : List ℕ} {r : Run} (ran : Ran Answer first start block out r) (few : length ran.asked.read < most_octets) (is_open : r.output.sink.closed ≡ false) (all_read : r.input.source.failed ≡ false) where
    -- IT ANSWERS EVERY LINE, however the reads cut them: those of all octets that were read are the first ones and those that are answered
    pub answers-all : lines_of ran.asked.read ≡ first ++ ran.lines
    answers-all = by ran.stops
      where
        by : Stops ran.asked r.output → lines_of ran.asked.read ≡ first ++ ran.lines
        by (closed e) = absurd (subst T (sym e ∙ is_open) tt)
        by (many h) = absurd (omega (arith, h, few))
        by (failed e) = absurd (subst T (sym e ∙ all_read) tt)
        by (over e f d) =
            let none : held block r.input ≡ [] = none-held block r.input f in
            (rw append-nil at (ran.asked.parts [] (λ _. refl))) ∙ (rw (d, none, no_lines, append-nil) ran.these)

    -- IT WRITES ALL: the answers and the last line
    pub writes-all : ran.put.written ≡ ran.text ++ end_text (length ran.lines)
    writes-all = sym (rw all_read at ran.put.parts ∙ ap (λ (l : List ℕ). ran.put.written ++ l) (ran.put.kept is_open ∙ rw (ran.all is_open)) ∙ append-nil ran.put.written)

  -- ONE TEXT: two runs that read the same octets, however they were cut, have written the same
  module _ (one : (n : ℕ) (line t u : List ℕ) → Answer n line t → Answer n line u → t ≡ u) {first : List (List ℕ)} {start start' block block' out out' : List ℕ} {r r' : Run}
      (a : Ran Answer first start block out r) (b : Ran Answer first start' block' out' r') (same : a.asked.read ≡ b.asked.read) (few : length a.asked.read < most_octets)
      (a-open : r.output.sink.closed ≡ false) (b_open : r'.output.sink.closed ≡ false) (a_read : r.input.source.failed ≡ false) (b-read : r'.input.source.failed ≡ false) where
    lines-one : a.lines ≡ b.lines
    lines-one =
        let e = sym (answers-all a few a-open a_read) ∙ ap lines_of same ∙ answers-all b (rw same at few) b_open b-read in
        sym (drop-append_seam first a.lines) ∙ ap (drop (length first)) e ∙ drop-append_seam first b.lines

    text-one : a.text ≡ b.text
    text-one = answers_one one a.answers (subst (λ (l : List (List ℕ)). Answers Answer 0 l b.text) (sym lines-one) b.answers)

    pub ran-one : a.put.written ≡ b.put.written
    ran-one = writes-all a few a-open a_read ∙ rw (text-one, lines-one) (sym (writes-all b (rw same at few) b_open b-read))
