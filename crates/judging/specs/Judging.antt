-- The answer to the numbers of a record, in parts.
use Rattle.std.specs.Prelude.{List, ℕ, ◌≤◌}
use Rattle.ground.specs.Answers.{Unless, Else0}
use Rattle.layout.specs.Layout.{MessageField, Row}
use Rattle.layout.specs.Demands.{CodesThen, RecordThen}

-- 2, 4, 5, 6 and 7: all but 10, which is the room's
abbrev pub RecordAnswer : List Row → (MessageField → ℕ) → ℕ → Type 0
RecordAnswer rows value = RecordThen rows value Else0

-- 2, 4, 5 and 6
abbrev pub CodesAnswerOf : List Row → (MessageField → ℕ) → ℕ → Type 0
CodesAnswerOf rows value = CodesThen rows value Else0

-- 4, of a polygon's count
abbrev pub CountAnswer : ℕ → ℕ → Type 0
CountAnswer n = Unless ((3 ≤ n) × (n ≤ 15)) 4 Else0
