-- The answer of reading, worked out: the number that `ReadAnswer` leaves.
use Rattle.std.specs.Prelude.{Bool, true, cond, ◌&&◌, List, ℕ, eqb, leb, ltb, length}
use Rattle.ground.specs.Counts.{angle_codes, bearing_codes, confidence_codes}
use Rattle.layout.specs.Layout.{Row}
use Rattle.layout.specs.Layout as layout
use Rattle.layout.specs.Rows.{width_of, read, length_of}

-- m where the test holds, else n
abbrev unless : Bool → ℕ → ℕ → ℕ
unless test n m = cond test m n

-- 1, 2, 4, 3, 5, 6; what the rows don't have reads 0
unfoldable pub read_number : List Row → List ℕ → ℕ
read_number rows s =
    unless (ltb 0 (length s)) 1
    (unless (ltb 0 (length_of rows)) 2
    (unless (cond (eqb (width_of rows layout.count) 0) true (leb 3 (read s rows layout.count) && leb (read s rows layout.count) 15)) 4
    (unless (eqb (length s) (length_of rows)) 3
    (unless (ltb (read s rows layout.orientation) angle_codes && (ltb (read s rows layout.offset) angle_codes && (ltb (read s rows layout.included) angle_codes && ltb (read s rows layout.bearing) bearing_codes))) 5
    (unless (ltb (read s rows layout.confidence) confidence_codes) 6 0)))))
