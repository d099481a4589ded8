-- What a line says, and its text.
use Rattle.std.specs.Prelude.{Result, Ok, Err, ℕ, Bool, cond, List, [], ◌∷◌, ◌++◌, pos}
use Rattle.ground.specs.Answers.{number_of}
use Rattle.ground.specs.declared.refusals.Refusal.{Refusal}
use Rattle.ground.specs.declared.said.SaidCode.{SaidCode}
use Rattle.ground.specs.declared.said.SaidCode.TheVariants as code
use Rattle.ground.specs.declared.said.SaidQuantity.{SaidQuantity}
use Rattle.ground.specs.declared.said.SaidQuantity.TheVariants as quantity
use Rattle.text.specs.Text.{decimal, signed_decimal}
use Rattle.text.specs.declared.said.SaidLine.{SaidLine}
use Rattle.text.specs.declared.said.SaidLine.TheVariants.{Unreadable, Refused, Missing, One, Two}

-- of a code: the values, or a refusal's number
unfoldable pub line_of_code : Result SaidCode Refusal → SaidLine
line_of_code (Ok (code.Natural n)) = One (record { 0 = pos n })
line_of_code (Ok (code.Signed c)) = Two c.0 (record { 0 = pos c.1 })
line_of_code (Ok (code.Longitude c)) = One (record { 0 = c.0 })
line_of_code (Err why) = Refused (number_of why)

-- of a quantity: the value, or a refusal's number
unfoldable pub line_of_quantity : Result SaidQuantity Refusal → SaidLine
line_of_quantity (Ok (quantity.Natural n)) = One (record { 0 = pos n })
line_of_quantity (Ok (quantity.Coordinate x)) = One (record { 0 = x.0 })
line_of_quantity (Ok (quantity.Altitude x)) = One (record { 0 = x.0 })
line_of_quantity (Ok (quantity.VerticalSpeed x)) = One (record { 0 = x.0 })
line_of_quantity (Ok quantity.Missing) = Missing
line_of_quantity (Err why) = Refused (number_of why)

-- "0 1 " or "0 0 "
unfoldable pub sign_text : Bool → List ℕ
sign_text sign = 48 ∷ 32 ∷ cond sign 49 48 ∷ 32 ∷ []

-- "-" for what is unreadable; a refusal's number; "0 -" for what is missing; 0 and the values
unfoldable pub said_line_text : SaidLine → List ℕ
said_line_text Unreadable = 45 ∷ []
said_line_text (Refused number) = decimal number
said_line_text Missing = 48 ∷ 32 ∷ 45 ∷ []
said_line_text (One x) = 48 ∷ 32 ∷ signed_decimal x.0
said_line_text (Two sign x) = sign_text sign ++ signed_decimal x.0

-- NUMBER ANSWER, and a newline
unfoldable pub line_text : ℕ → SaidLine → List ℕ
line_text number said = decimal number ++ 32 ∷ said_line_text said ++ 10 ∷ []

-- end NUMBER, and a newline
unfoldable pub end_text : ℕ → List ℕ
end_text count = 101 ∷ 110 ∷ 100 ∷ 32 ∷ decimal count ++ 10 ∷ []
