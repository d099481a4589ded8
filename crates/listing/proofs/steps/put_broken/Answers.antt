-- The number, a dash, the refusal's number, and a newline.
use mathlib.Core.Path.{◌≡◌, subst}
use mathlib.Core.List.{List, [], ◌∷◌}
use Prim.Native.Nat.{ℕ}
use native.Mathlib.Omega.{arith}
use Rattle.ground.specs.Answers.{number_of}
use Rattle.ground.specs.declared.refusals.Refusal.TheVariants.{FrameBroken}
use Rattle.text.specs.Text.{decimal, PutsWithin}
use Rattle.text.proofs.OutputLaws.{decimal-most}
use Rattle.text.proofs.WithinLaws.{within, octet-within, decimal-within, after}
use Rattle.listing.specs.Steps.{broken_of}
use Rattle.listing.proofs.steps.put_broken.Goals as goal

broken-put : {x y z v w : List ℕ} {i j k l m : ℕ} (n r : ℕ) → r ≡ number_of FrameBroken → PutsWithin 20 x i (decimal n) y j → PutsWithin 3 y j (32 ∷ 45 ∷ 32 ∷ []) z k
    → PutsWithin 20 z k (decimal r) v l → PutsWithin 1 v l (10 ∷ []) w m → PutsWithin 44 x i (broken_of n) w m
unfolding broken_of
broken-put {z = z} {v = v} {k = k} {l = l} n r e a b c d = after (after a (after b (subst (λ (n : ℕ). PutsWithin 20 z k (decimal n) v l) e c))) d

pub put_decimal-dash-requires : goal.put_decimal-dash-requires
put_decimal-dash-requires c = omega (arith, decimal-most {n = c.args.number} (omega arith))

pub put_bytes-answer-requires : goal.put_bytes-answer-requires
put_bytes-answer-requires c = omega (arith, (decimal-within (omega arith) c.put_decimal-dash.ensures).within)

pub put_decimal-newline-requires : goal.put_decimal-newline-requires
put_decimal-newline-requires c =
    let few = (decimal-within (omega arith) c.put_decimal-dash.ensures).within in
    omega (arith, few, c.put_bytes-answer.ensures.place, decimal-most {n = c.from.result} (omega arith))

pub put_byte-requires : goal.put_byte-requires
put_byte-requires c =
    let few = (decimal-within (omega arith) c.put_decimal-dash.ensures).within in
    let more = (decimal-within (omega arith) c.put_decimal-newline.ensures).within in
    omega (arith, few, more, c.put_bytes-answer.ensures.place)

pub returns : goal.returns
returns c =
    broken-put _ _ c.from.ensures (decimal-within (omega arith) c.put_decimal-dash.ensures) (within {most = 3} (omega arith) c.put_bytes-answer.ensures) (decimal-within (omega arith) c.put_decimal-newline.ensures) (octet-within c.put_byte.ensures)
