-- What is written is the text that was listed.
use native.Mathlib.Omega.{arith}
use mathlib.Core.Path.{sym}
use lib.Seq.{length-take-le}
use Rattle.listings.proofs.list.Goals as goal

pub slice_bounds-write_all-end-2 : goal.slice_bounds-write_all-end-2
slice_bounds-write_all-end-2 c = sym (length-take-le _ _ (omega (arith, c.list_some-listed.ensures.room, c.list_some-listed.auto.out)))
