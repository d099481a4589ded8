-- A turn copies one more.
use mathlib.Core.Path.{◌≡◌}
use Prim.Native.Nat.{◌+◌}
use native.Mathlib.Omega.{arith}
use Rattle.std.proofs.lemmas.List.Edits.{paste_more}
use Rattle.code_arrays.proofs.code_numbers.put_codes.Goals as goal

pub loop-i-preserved : goal.loop-i-preserved
loop-i-preserved c =
    let i = c.loop-i.i in
    let e : 0 + i ≡ i = omega arith in
    let more = paste_more c.args.out.now 0 c.args.src.now i 0 (omega arith) (omega arith) in
    cc
