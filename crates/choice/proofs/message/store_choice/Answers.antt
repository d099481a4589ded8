-- The first octet, a position, and what follows it.
use Prim.Native.Nat.{ℕ}
use mathlib.Core.Path.{ap, ◌∙◌}
use mathlib.Core.List.{List, ◌∷◌, ◌++◌}
use lib.Seq.{sets}
use Rattle.octets.specs.Codes.{position}
use Rattle.composing.specs.Composing.{rest}
use Rattle.requests.specs.Codes.{wanted_record}
use Rattle.choice.proofs.StoredLaws.{parts-stored}
use Rattle.choice.proofs.message.store_choice.Goals as goal

pub returns : goal.returns
returns c =
    let k = c.args.kind in
    let w = c.args.wanted in
    let o = c.args.out.now in
    c.put_rest.ensures ∙ ap (λ (l : List ℕ). sets l 7 (rest k (wanted_record k w))) c.put_position.ensures
    ∙ ap (λ (v : ℕ). sets o 0 (v ∷ (position w.latitude w.longitude ++ rest k (wanted_record k w)))) c.first_octet.ensures
    ∙ parts-stored k w c.requires.takes_part c.requires.tame o c.requires.kind_in_bounds
