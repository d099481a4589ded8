-- The answer for what a line asks.
use Rattle.std.specs.Prelude.{Some, None, Result, Ok, Err}
use mathlib.Core.Path.{◌≡◌}
use mathlib.Core.List.{List}
use Prim.Native.Nat.{ℕ, ◌≤◌}
use lib.ListN.{length, replicate}
use Rattle.requests.specs.declared.Request.{Request}
use Rattle.requests.specs.Choice.{Chooses, Listed}
use Rattle.text.specs.Text.{PutsWithin}
use Rattle.request_lines.specs.Answers.{choice_text}
use Rattle.request_lines.specs.declared.Unreadable.{Unreadable}
use Rattle.chooser.specs.Choosing.{message_in, unreadable, chosen, PutsChosen}
use Rattle.ground.specs.declared.refusals.Refusal.{Refusal}

module _ {list n at next : ℕ} {a : Result Request Unreadable} {x y : List ℕ} where
  pub none-put : {u : Unreadable} → a ≡ Err u → PutsWithin 65 x at (choice_text n None) y next → next ≤ length x → PutsChosen list n a x at y next
  none-put e p i = record { text = choice_text n None; is = rw e unreadable; puts = p; inside = i }

  pub chosen-put : {q : Request} {after : List ℕ} (w : Result ℕ Refusal) → a ≡ Ok q → Chooses q (Listed list) (replicate 14 0) after w
      → PutsWithin 65 x at (choice_text n (Some (message_in after w))) y next → next ≤ length x → PutsChosen list n a x at y next
  chosen-put {q} {after} w e c p i = record { text = choice_text n (Some (message_in after w)); is = rw e (chosen w c); puts = p; inside = i }
