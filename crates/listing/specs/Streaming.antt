-- THE LISTING IN PIECES: what one call of list_some lists.
use Rattle.std.specs.Prelude.{ℕ, zero, suc, ◌+◌, ◌≤◌, Bool, true, false, cond, ◌≡◌, List, [], ◌++◌, length, drop, ltb}
use Rattle.std.proofs.lemmas.List.Edits.{sets}
use Rattle.frames.specs.Frames.{frame_of}
use Rattle.frames.specs.declared.Frame.{Frame}
use Rattle.frames.specs.declared.Frame.TheVariants.{Whole, Broken, More, End}
use Rattle.listing.specs.Steps.{text_of, longest_step}
use Rattle.listing.specs.Listing.{list_in}
use Rattle.listing.specs.declared.Listed.{Listed}

-- the text of all that is left of the input, after some unbroken frames
unfoldable pub list_from : ℕ → List ℕ → List ℕ
list_from unbroken s = list_in (suc (length s)) unbroken s

-- what a call finds: the text, the octets that it took, the unbroken frames so far, and whether the run is over
pub record Found : Type 0 where
  pub text : List ℕ
  pub taken : ℕ
  pub unbroken : ℕ
  pub ended : Bool

abbrev pub found : Bool → List ℕ → ℕ → ℕ → Found
found over t at n = record { text = t; taken = at; unbroken = n; ended = over }

-- after an unbroken frame, with the size of its message, go on; at anything else stop
abbrev pub on_frame : Frame → (ℕ → Found) → Found → Found
on_frame (Whole kind size) go stop = go size
on_frame Broken go stop = stop
on_frame More go stop = stop
on_frame End go stop = stop

-- the run is over at the end of the input and at a broken frame
abbrev pub ends_run : Frame → Bool
ends_run (Whole kind size) = false
ends_run Broken = true
ends_run More = false
ends_run End = true

-- at most so many frames of s are listed from place `at` on, after n unbroken ones and the text t, as long as the longest step has room in `size` octets
unfoldable pub some_in : ℕ → ℕ → Bool → List ℕ → ℕ → ℕ → List ℕ → Found
some_in zero size last s n at t = found false t at n
some_in (suc most) size last s n at t =
    cond (ltb size (length t + longest_step)) (found false t at n)
    (on_frame (frame_of last (drop at s))
    (λ l. some_in most size last s (n + 1) (at + (4 + l)) (t ++ text_of (frame_of last (drop at s)) n (drop at s)))
    (found (ends_run (frame_of last (drop at s))) (t ++ text_of (frame_of last (drop at s)) n (drop at s)) at n))

-- what a call lists of s, after some unbroken frames
unfoldable pub some_of : ℕ → Bool → List ℕ → ℕ → Found
some_of size last s unbroken = some_in (suc (length s)) size last s unbroken 0 []

-- what list_some ensures, after n unbroken frames
pub record Lists (last : Bool) (n : ℕ) (s before after : List ℕ) (r : Listed) : Type 0 where
  pub taken : r.taken ≡ (some_of (length before) last s n).taken
  pub written : r.written ≡ length (some_of (length before) last s n).text
  pub unbroken : r.unbroken ≡ (some_of (length before) last s n).unbroken
  pub ended : r.ended ≡ (some_of (length before) last s n).ended
  pub content : after ≡ sets before 0 (some_of (length before) last s n).text
  pub inside : r.taken ≤ length s
  pub room : r.written ≤ length before
  pub count : r.unbroken ≤ n + r.taken
