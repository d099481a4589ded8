-- Octets moved down a buffer.
use Rattle.std.proofs.Common.{◌≡◌, ℕ, ◌-◌, List, sym, ◌∙◌, take-append-drop}
use Rattle.streaming.specs.Blocks.{Shifted}

-- one content of the buffer
pub shifted_one : {b x y : List ℕ} {at fill : ℕ} → Shifted b at fill x → Shifted b at fill y → x ≡ y
shifted_one {b} {x} {y} {at} {fill} s t =
    sym (take-append-drop (fill - at) x) ∙ rw (s.moved, s.rest, ← t.moved, ← t.rest) (take-append-drop (fill - at) y)
