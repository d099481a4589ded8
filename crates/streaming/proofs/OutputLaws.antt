-- The text goes on, and what was put of it is written.
use Rattle.std.proofs.Common.{◌≡◌, ℕ, ◌+◌, ◌%◌, ◌^◌, ◌≤◌, Bool, true, false, T, List, [], ◌++◌, length, take, sym, refl, ap, ◌∙◌, subst, append_assoc, append-nil, length-append}
use native.Mathlib.Nat.{mod-add-mod}
use Rattle.text.specs.AnswerLines.{end_text}
use Rattle.text.specs.Text.{Puts}
use Rattle.text.proofs.OutputLaws.{text-so-far}
use Rattle.streaming.specs.declared.output.Output.{Output}
use Rattle.streaming.specs.Outputs.{no_output, PutOut, Written, Kept, same, written}

pub put-nothing : (out : List ℕ) → PutOut [] out no_output
put-nothing out = record { written = []; left = []; parts = refl; size = refl; kept = λ _. refl }

pub put_written : {text out : List ℕ} {o r : Output} → o.sink.closed ≡ false → PutOut text out o → Written out o r → PutOut text out r
put_written {text} {out} {o} {r} is_open p w = by r.sink.closed refl
  where
    by : (b : Bool) → r.sink.closed ≡ b → PutOut text out r
    by true e = record { written = p.written; left = p.left; parts = p.parts; size = w.wrote.failed e ∙ p.size; kept = λ f. absurd (subst T (sym e ∙ f) tt) }
    by false e =
        let part : List ℕ = take o.put out in
        record {
          written = p.written ++ part;
          left = [];
          parts = p.parts ∙ ap (λ (l : List ℕ). p.written ++ l) (p.kept is_open) ∙ sym (append-nil (p.written ++ part));
          size = w.wrote.done e ∙ ap (λ (n : ℕ). (n + length part) % 2 ^ 64) p.size ∙ mod-add-mod (length p.written) (2 ^ 64) (length part) ∙ ap (λ (n : ℕ). n % 2 ^ 64) (sym (length-append p.written part));
          kept = λ _. rw w.none_left;
        }

pub put-kept : {text out : List ℕ} {o r : Output} → o.sink.closed ≡ false → PutOut text out o → Kept out o r → PutOut text out r
put-kept is_open p (same e) = rw e p
put-kept is_open p (written w) = put_written is_open p w

-- a text is put behind it
pub put-more : {text x t y : List ℕ} {o r : Output} → Puts x o.put t y r.put → r.put ≤ length x → r.sink ≡ o.sink → PutOut text x o → PutOut (text ++ t) y r
put-more {text} {x} {t} {y} {o} {r} puts fits e p = record {
  written = p.written;
  left = p.left ++ t;
  parts = ap (λ (l : List ℕ). l ++ t) p.parts ∙ append_assoc p.written p.left t;
  size = rw e p.size;
  kept = λ f. ap (λ (l : List ℕ). l ++ t) (p.kept (rw e at f)) ∙ sym (text-so-far puts fits);
}

-- what comes after the output was closed is not written
pub put-closed : {text x y : List ℕ} {o : Output} (t : List ℕ) → o.sink.closed ≡ true → PutOut text x o → PutOut (text ++ t) y o
put-closed {text} {x} {y} {o} t e p = record {
  written = p.written;
  left = p.left ++ t;
  parts = ap (λ (l : List ℕ). l ++ t) p.parts ∙ append_assoc p.written p.left t;
  size = p.size;
  kept = λ f. absurd (subst T (sym e ∙ f) tt);
}

-- room is made, and an answer put
pub put-answer : {x y t : List ℕ} {o m : Output} {next : ℕ} (n : ℕ) → o.sink.closed ≡ false → Kept x o m → Puts x m.put t y next → next ≤ length x
    → (text : List ℕ) → PutOut text x o → PutOut (text ++ t) y (record { put = next; answered = n; sink = m.sink })
put-answer {x} {y} {t} {o} {m} {next} n on kept puts fits text p = put-more {o = m} {r = record { put = next; answered = n; sink = m.sink }} puts fits refl (put-kept on p kept)

-- room is made, the last line put, and all of it written
pub put-end : {x y : List ℕ} {o m r : Output} {next : ℕ} → o.sink.closed ≡ false → Kept x o m → m.answered ≡ o.answered → m.sink.closed ≡ false
    → Puts x m.put (end_text m.answered) y next → next ≤ length x → Written y (record { put = next; answered = m.answered; sink = m.sink }) r
    → (text : List ℕ) → PutOut text x o → PutOut (text ++ end_text o.answered) y r
put-end {x} {y} {o} {m} {r} {next} on kept same_count still-on puts fits w text p =
    subst (λ (n : ℕ). PutOut (text ++ end_text n) y r) same_count
    (put_written still-on (put-answer m.answered on kept puts fits text p) w)
