-- The text of an answer.
use Rattle.std.specs.Prelude.{List, [], ◌∷◌, ◌++◌, ℕ, ◌≤◌, length, Option, Some, None, Result, Ok, Err}
use Rattle.ground.specs.Answers.{number_of}
use Rattle.ground.specs.declared.refusals.Refusal.{Refusal}
use Rattle.text.specs.Text.{decimal, octets_text}
use Rattle.request_lines.specs.declared.answers.Answer.{Answer}
use Rattle.request_lines.specs.declared.answers.Answer.TheVariants.{Unreadable, Refused, Message}

-- no message is longer than 14 octets
abbrev pub Short : Answer → Type 0
Short Unreadable = Unit {0}
Short (Refused why) = Unit {0}
Short (Message octets) = length octets.now ≤ 14

-- none to an unreadable line, else the octets of the message or the refusal
abbrev pub answered : Answer → Option (Result (List ℕ) Refusal)
answered Unreadable = None
answered (Refused why) = Some (Err why)
answered (Message octets) = Some (Ok octets.now)

-- "-" for an unreadable line; 0 and the octets of the message; a refusal's number
unfoldable pub said_text : Option (Result (List ℕ) Refusal) → List ℕ
said_text None = 45 ∷ []
said_text (Some (Ok message)) = 48 ∷ octets_text message
said_text (Some (Err why)) = decimal (number_of why)

-- NUMBER ANSWER, and a newline
unfoldable pub choice_text : ℕ → Option (Result (List ℕ) Refusal) → List ℕ
choice_text number answer = decimal number ++ 32 ∷ said_text answer ++ 10 ∷ []
