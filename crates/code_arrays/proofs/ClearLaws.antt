-- Zeros written over a part of a list, of any element.
use mathlib.Core.Path.{◌≡◌, sym, ◌∙◌}
use mathlib.Core.List.{List, append_assoc}
use Prim.Native.Nat.{ℕ, ◌+◌, ◌≤◌}
use native.Mathlib.Omega.{arith}
use lib.ListN.{length, take, drop, replicate, length-replicate, length-drop}
use lib.Seq.{sets, sets-eq}
use borrow.Rule.Slice.PartMut.{put_mid}
use Rattle.std.proofs.Common.{length-take}
use Rattle.std.proofs.lemmas.Slice.{put_mid-paste}
use Rattle.std.proofs.lemmas.List.Edits.{paste_all}

module _ {A : Type 0} (zero : A) where
  pub cleared : (o part : List A) (first k n : ℕ) → first + k ≤ length o → k ≡ n → part ≡ replicate (length (take k (drop first o))) zero → put_mid first k o part ≡ sets o first (replicate n zero)
  cleared o part first k n h e p =
      let zeros : List A = replicate n zero in
      let w : length zeros ≡ n = length-replicate n zero in
      let m : length (take k (drop first o)) ≡ n = omega (arith, length-drop first o, length-take k (drop first o)) in
      put_mid-paste first k o part zeros n (rw m at p) (sym e) (sym w)
      ∙ paste_all o first zeros n (sym w)
      ∙ sym (append_assoc (take first o) zeros (drop (first + n) o))
      ∙ rw w at (sym (sets-eq zeros o first (omega arith)))
