-- WHAT IS LISTED FOR A FRAME, document 01, "The lister".
use Rattle.std.specs.Prelude.{ℕ, ◌+◌, List, [], ◌∷◌, ◌++◌, take, drop}
use Rattle.ground.specs.Answers.{number_of}
use Rattle.ground.specs.declared.refusals.Refusal.TheVariants.{FrameBroken}
use Rattle.text.specs.Text.{decimal}
use Rattle.text.specs.AnswerLines.{end_text}
use Rattle.wording.specs.Wording.{message_text}
use Rattle.frames.specs.declared.Frame.{Frame}
use Rattle.frames.specs.declared.Frame.TheVariants.{Whole, Broken, More, End}

-- a line a frame: its number, its kind, the answer to its message
unfoldable pub line_of : ℕ → ℕ → List ℕ → List ℕ
line_of number kind message = decimal number ++ 32 ∷ decimal kind ++ 32 ∷ message_text kind message ++ 10 ∷ []

-- a broken frame: NUMBER - 11
unfoldable pub broken_of : ℕ → List ℕ
broken_of number = decimal number ++ 32 ∷ 45 ∷ 32 ∷ decimal (number_of FrameBroken) ++ 10 ∷ []

-- what is listed for the frame at the start of s, after so many unbroken ones; a broken one ends the run. The last line,
-- `end_text`: end and the number of unbroken frames
unfoldable pub text_of : Frame → ℕ → List ℕ → List ℕ
text_of (Whole kind size) unbroken s = line_of (unbroken + 1) kind (take size (drop 4 s))
text_of Broken unbroken s = broken_of (unbroken + 1) ++ end_text unbroken
text_of More unbroken s = []
text_of End unbroken s = end_text unbroken

-- no frame's text, with the end line behind a broken one, takes more octets
abbrev pub longest_step : ℕ
longest_step = 800
