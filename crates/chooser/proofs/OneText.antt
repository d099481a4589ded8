-- One text for what is read, however the reads cut it.
use Rattle.std.specs.Prelude.{Result}
use mathlib.Core.Path.{◌≡◌, refl, sym, ◌∙◌, subst}
use mathlib.Core.Bool.{false}
use mathlib.Core.List.{List}
use mathlib.Core.Logic.{⊎_elim}
use Prim.Native.Nat.{ℕ, ◌<◌}
use lib.ListN.{length, replicate}
use Rattle.text.proofs.OutputLaws.{split}
use Rattle.requests.specs.Choice.{Listed}
use Rattle.requests.proofs.OneChoice.{chooses-one, chosen-buffer-one}
use Rattle.requests.specs.declared.Request.{Request}
use Rattle.request_lines.specs.declared.Unreadable.{Unreadable}
use Rattle.request_lines.proofs.AskingLaws.{list-one, asks-one}
use Rattle.streaming.specs.Inputs.{longest_line, most_octets}
use Rattle.streaming.specs.Answering.{Ran}
use Rattle.streaming.specs.declared.output.Run.{Run}
use Rattle.streaming.proofs.AnswerLaws.{ran-one}
use Rattle.chooser.specs.Choosing.{LineLists, LineAsks, AnswerTo, unreadable, chosen, ChooserAnswer}

-- the first line says one list
pub lists-one : {line : List ℕ} {a b : ℕ} → LineLists line a → LineLists line b → a ≡ b
lists-one {line} p q = ⊎_elim (λ h. p.too_long h ∙ sym (q.too_long h)) (λ h. list-one (p.says h) (q.says h)) (split longest_line (length line))

line-asks-one : {line : List ℕ} {a b : Result Request Unreadable} → LineAsks line a → LineAsks line b → a ≡ b
line-asks-one {line} {a} {b} p q = ⊎_elim (λ h. p.too_long h ∙ sym (q.too_long h)) (λ h. asks-one line a b (p.asks h) (q.asks h)) (split longest_line (length line))

answer-to-one : {list n : ℕ} {a : Result Request Unreadable} {t u : List ℕ} → AnswerTo list n a t → AnswerTo list n a u → t ≡ u
answer-to-one unreadable unreadable = refl
answer-to-one {list} (chosen {q = q} {after = x} w c) (chosen {after = y} v d) =
    let e = chooses-one q (Listed list) (replicate 14 0) x y w v c d in
    let f = chosen-buffer-one q (Listed list) (replicate 14 0) x y w v c d in
    rw (e, f)

line-answer-one : (list n : ℕ) (line t u : List ℕ) → ChooserAnswer list n line t → ChooserAnswer list n line u → t ≡ u
line-answer-one list n line t u a b = answer-to-one a.is (subst (λ (q : Result Request Unreadable). AnswerTo list n q u) (sym (line-asks-one a.asks b.asks)) b.is)

pub choosing-one : {list : ℕ} {first : List (List ℕ)} {start start' block block' out out' : List ℕ} {r r' : Run} (a : Ran (ChooserAnswer list) first start block out r) (b : Ran (ChooserAnswer list) first start' block' out' r')
    → a.asked.read ≡ b.asked.read → length a.asked.read < most_octets → r.output.sink.closed ≡ false → r'.output.sink.closed ≡ false → r.input.source.failed ≡ false → r'.input.source.failed ≡ false
    → a.put.written ≡ b.put.written
choosing-one {list} = ran-one (line-answer-one list)
