-- FRAMES, document 01, "The lister": a two-octet big-endian length L of what follows, a version octet 1, a kind octet (0 shape,
-- 1 velocity), the message.
use Rattle.std.specs.Prelude.{ℕ, ◌+◌, ◌-◌, ◌*◌, Bool, true, false, ◌&&◌, List, [], ◌∷◌, leb, eqb, length}
use Rattle.frames.specs.declared.Frame.{Frame}
use Rattle.frames.specs.declared.Frame.TheVariants.{Whole, Broken, More, End}

abbrev pub pick : Bool → Frame → Frame → Frame
pick true a b = a
pick false a b = b

-- L in 2..93, version 1, kind 0 or 1
abbrev pub head_sound : ℕ → ℕ → ℕ → Bool
head_sound L version kind = leb 2 L && leb L 93 && eqb version 1 && leb kind 1

-- a frame with that head, of whose message `present` octets are there. `last`: nothing follows them
abbrev pub headed : Bool → ℕ → ℕ → ℕ → ℕ → Frame
headed last L version kind present =
    pick (head_sound L version kind) (pick (leb (L - 2) present) (Whole kind (L - 2)) (pick last Broken More)) Broken

-- the frame at the start of the octets. `last`: these are all that is left of the input; else more may follow
unfoldable pub frame_of : Bool → List ℕ → Frame
frame_of last [] = pick last End More
frame_of last (a ∷ []) = pick last Broken More
frame_of last (a ∷ b ∷ []) = pick last Broken More
frame_of last (a ∷ b ∷ c ∷ []) = pick last Broken More
frame_of last (a ∷ b ∷ v ∷ k ∷ rest) = headed last (256 * a + b) v k (length rest)

-- the octets that an unbroken frame takes; anything else takes none
abbrev pub octets_of : Frame → ℕ
octets_of (Whole kind size) = 4 + size
octets_of Broken = 0
octets_of More = 0
octets_of End = 0
