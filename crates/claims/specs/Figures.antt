-- The starred bench figures, in the definitions that the functions' contracts cite.
use Rattle.std.specs.Prelude.{true, false, List, [], ◌∷◌, ◌++◌, ℕ, ◌≤◌, length, drop, ℤ, pos, negsuc, None}
use Rattle.ground.specs.Answers.{done}
use Rattle.ground.specs.declared.quantity.Nanodegrees.{Nanodegrees}
use Rattle.ground.specs.declared.code.LatitudeCode.{LatitudeCode}
use Rattle.requests.specs.declared.Request.{Request}
use Rattle.requests.specs.declared.Horizontal.TheVariants.{Ellipse}
use Rattle.requests.specs.Choice.{Listed, Chosen}
use Rattle.fields.specs.Fields.{Field, CodeOf, QuantityOf, Coding, Reporting}
use Rattle.fields.specs.Fields as field

-- a quantity and the code that it has, a code and the quantity that it reports, or a request, a list and the message that is
-- chosen, where there is room for it
pub data Figure : Type 0 where
  codes : (f : Field) → QuantityOf f → CodeOf f → Figure
  reports : (f : Field) → CodeOf f → QuantityOf f → Figure
  chooses : Request → ℕ → List ℕ → Figure

abbrev pub FigureHolds : Figure → Type 0
FigureHolds (codes f x c) = Coding f x (done c)
FigureHolds (reports f c x) = Reporting f c (done x)
FigureHolds (chooses q list s) = (before : List ℕ) → length s ≤ length before → Chosen q (Listed list) before 0 (length s) (s ++ drop (length s) before)

abbrev pub Each : List Figure → Type 0
Each [] = Unit
Each (figure ∷ figures) = FigureHolds figure × Each figures

-- ---- the table

abbrev north : ℕ → LatitudeCode
north N = record { 0 = false; 1 = N }

abbrev south : ℕ → LatitudeCode
south N = record { 0 = true; 1 = N }

abbrev degrees : ℤ → Nanodegrees
degrees x = record { 0 = x }

-- n below zero: `negsuc k` is -(k + 1)
abbrev pub latitudes : List Figure
latitudes =
    codes field.latitude (degrees (pos 10728)) (north 0)
    ∷ codes field.latitude (degrees (pos 10729)) (north 1)
    ∷ codes field.latitude (degrees (pos 90000000000)) (north 8388607)
    ∷ codes field.latitude (degrees (pos 89999989272)) (north 8388607)
    ∷ codes field.latitude (degrees (pos 0)) (north 0)
    ∷ codes field.latitude (degrees (negsuc 0)) (south 0)
    ∷ reports field.latitude (south 0) (degrees (negsuc 0))
    ∷ []

abbrev pub longitudes : List Figure
longitudes =
    codes field.longitude (degrees (negsuc 21456)) (record { 0 = negsuc 0 })
    ∷ codes field.longitude (degrees (negsuc 21457)) (record { 0 = negsuc 1 })
    ∷ codes field.longitude (degrees (pos 180000000000)) (record { 0 = negsuc 8388607 })
    ∷ []

abbrev radius : ℕ → ℕ → Figure
radius R K = codes field.uncertainty (record { 0 = R }) (record { 0 = K })

abbrev pub radii : List Figure
radii =
    radius 57274 20
    ∷ radius 57275 21
    ∷ radius 51159 19
    ∷ radius 51160 20
    ∷ radius 0 0
    ∷ radius 1 1
    ∷ radius 1000 1
    ∷ radius 1001 2
    ∷ []

abbrev height : ℕ → ℕ → Figure
height R K = codes field.altitude_uncertainty (record { 0 = R }) (record { 0 = K })

abbrev pub heights : List Figure
heights = height 1125 1 ∷ height 1126 2 ∷ height 2278 2 ∷ height 2279 3 ∷ []

abbrev pub angles : List Figure
angles =
    codes field.included (record { 0 = 2000 }) (record { 0 = 0 })
    ∷ codes field.included (record { 0 = 2001 }) (record { 0 = 1 })
    ∷ codes field.offset (record { 0 = 2000 }) (record { 0 = 1 })
    ∷ []

abbrev pub speeds : List Figure
speeds =
    codes field.horizontal_speed (record { 0 = 499 }) (record { 0 = 0 })
    ∷ codes field.horizontal_speed (record { 0 = 500 }) (record { 0 = 1 })
    ∷ codes field.vertical_speed (record { 0 = pos 499 }) (record { 0 = false; 1 = 0 })
    ∷ codes field.vertical_speed (record { 0 = pos 500 }) (record { 0 = false; 1 = 1 })
    ∷ []

-- 45 north, 90 west, an ellipse of 57274 by that semi-minor at 30 degrees
abbrev pub asking : ℕ → Request
asking S = record {
  latitude = degrees (pos 45000000000);
  longitude = degrees (negsuc 89999999999);
  altitude = None;
  horizontal = Ellipse (record { 0 = 57274 }) (record { 0 = S }) (record { 0 = 30000 });
  altitude_uncertainty = None;
  confidence = None;
}

-- the list {1, 3} is 2 + 8
abbrev pub choices : List Figure
choices =
    chooses (asking 51160) 10 (0x10 ∷ 0x40 ∷ 0x00 ∷ 0x00 ∷ 0xC0 ∷ 0x00 ∷ 0x00 ∷ 0x14 ∷ [])
    ∷ chooses (asking 51159) 10 (0x30 ∷ 0x40 ∷ 0x00 ∷ 0x00 ∷ 0xC0 ∷ 0x00 ∷ 0x00 ∷ 0x14 ∷ 0x13 ∷ 0x1E ∷ 0x00 ∷ [])
    ∷ []

-- the one list, and the one claim
abbrev pub figures : List Figure
figures = latitudes ++ longitudes ++ radii ++ heights ++ angles ++ speeds ++ choices

abbrev pub Starred : Type 0
Starred = Each figures
