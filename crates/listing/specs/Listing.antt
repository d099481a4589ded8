-- THE LISTING, document 01, "The lister": the text of an input.
use Rattle.std.specs.Prelude.{ℕ, zero, suc, ◌+◌, true, List, [], ◌++◌, length, drop}
use Rattle.frames.specs.Frames.{frame_of}
use Rattle.frames.specs.declared.Frame.{Frame}
use Rattle.frames.specs.declared.Frame.TheVariants.{Whole, Broken, More, End}
use Rattle.listing.specs.Steps.{text_of}

-- after an unbroken frame, with the size of its message, the rest; after anything else nothing
abbrev pub on_whole : Frame → (ℕ → List ℕ) → List ℕ
on_whole (Whole kind size) rest = rest size
on_whole Broken rest = []
on_whole More rest = []
on_whole End rest = []

-- the text of at most so many frames, after some unbroken ones
unfoldable pub list_in : ℕ → ℕ → List ℕ → List ℕ
list_in zero unbroken s = []
list_in (suc most) unbroken s =
    text_of (frame_of true s) unbroken s ++ on_whole (frame_of true s) (λ size. list_in most (unbroken + 1) (drop (4 + size) s))

-- THE LISTING of all octets of the input: no input has more frames than octets
unfoldable pub listing : List ℕ → List ℕ
listing s = list_in (suc (length s)) 0 s
