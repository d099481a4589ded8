-- THE REQUEST IN EIGHT ELEMENTS.
use Rattle.std.specs.Prelude.{◌≡◌, List, ℕ, ◌<◌, ◌^◌, ℤ, pos, Option, Some, None, Result, Ok, Err}
use Rattle.ground.specs.declared.quantity.Millimetres.{Millimetres}
use Rattle.ground.specs.declared.quantity.PerCent.{PerCent}
use Rattle.ground.specs.declared.quantity.SignedMillimetres.{SignedMillimetres}
use Rattle.requests.specs.declared.Request.{Request}
use Rattle.requests.specs.declared.Horizontal.{Horizontal}
use Rattle.requests.specs.declared.Horizontal.TheVariants as horizontal
use Rattle.request_lines.specs.declared.Unreadable.{Unreadable}
use Rattle.code_arrays.specs.QuantityNumbers.{quantity_in, missing, Signed32}

-- ---- what an element says

-- n, which 32 bits without a sign hold
pub record SaysNatural (z : ℤ) (n : ℕ) : Type 0 where
  pub number : z ≡ pos n
  pub fits : n < 2 ^ 32

-- x, which 32 bits with a sign hold
pub record ElementSaysSigned (z x : ℤ) : Type 0 where
  pub number : z ≡ x
  pub fits : Signed32 x

abbrev pub IsMissing : ℤ → Type 0
IsMissing z = z ≡ missing

abbrev pub ElementSaysAltitude : ℤ → Option SignedMillimetres → Type 0
ElementSaysAltitude z (Some a) = ElementSaysSigned z a.0
ElementSaysAltitude z None = IsMissing z

-- semi-major, semi-minor, orientation
abbrev pub ElementsSayHorizontal : ℤ → ℤ → ℤ → Horizontal → Type 0
ElementsSayHorizontal x y z (horizontal.Circle R) = SaysNatural x R.0 × IsMissing y × IsMissing z
ElementsSayHorizontal x y z (horizontal.Ellipse R S a) = SaysNatural x R.0 × SaysNatural y S.0 × SaysNatural z a.0
ElementsSayHorizontal x y z horizontal.NotAsked = IsMissing x × IsMissing y × IsMissing z

abbrev pub ElementSaysUncertainty : ℤ → Option Millimetres → Type 0
ElementSaysUncertainty z (Some R) = SaysNatural z R.0
ElementSaysUncertainty z None = IsMissing z

abbrev pub ElementSaysConfidence : ℤ → Option PerCent → Type 0
ElementSaysConfidence z (Some p) = SaysNatural z p.0
ElementSaysConfidence z None = IsMissing z

-- ---- THE PROMISE

-- latitude, longitude, altitude, semi-major, semi-minor, orientation, altitude uncertainty, confidence
pub record ElementsSay (elements : List ℤ) (q : Request) : Type 0 where
  pub latitudes : q.latitude.0 ≡ quantity_in elements 0
  pub longitudes : q.longitude.0 ≡ quantity_in elements 1
  pub altitudes : ElementSaysAltitude (quantity_in elements 2) q.altitude
  pub areas : ElementsSayHorizontal (quantity_in elements 3) (quantity_in elements 4) (quantity_in elements 5) q.horizontal
  pub heights : ElementSaysUncertainty (quantity_in elements 6) q.altitude_uncertainty
  pub confidences : ElementSaysConfidence (quantity_in elements 7) q.confidence

-- the request that the elements say, and unreadable where they say none
abbrev pub ElementsAsk : List ℤ → Result Request Unreadable → Type 0
ElementsAsk elements (Ok q) = ElementsSay elements q
ElementsAsk elements (Err _) = (q : Request) → ElementsSay elements q → ⊥

-- ---- the parts

abbrev pub ReadsAltitudeElement : ℤ → Result (Option SignedMillimetres) Unreadable → Type 0
ReadsAltitudeElement z (Ok a) = ElementSaysAltitude z a
ReadsAltitudeElement z (Err _) = (a : Option SignedMillimetres) → ElementSaysAltitude z a → ⊥

abbrev pub ReadsAmountElement : ℤ → Result (Option ℕ) Unreadable → Type 0
ReadsAmountElement z (Ok (Some n)) = SaysNatural z n
ReadsAmountElement z (Ok None) = IsMissing z
ReadsAmountElement z (Err _) = (IsMissing z → ⊥) × ((n : ℕ) → SaysNatural z n → ⊥)

abbrev pub ReadsHorizontalElements : ℤ → ℤ → ℤ → Result Horizontal Unreadable → Type 0
ReadsHorizontalElements x y z (Ok a) = ElementsSayHorizontal x y z a
ReadsHorizontalElements x y z (Err _) = (a : Horizontal) → ElementsSayHorizontal x y z a → ⊥

abbrev pub ReadsUncertaintyElement : ℤ → Result (Option Millimetres) Unreadable → Type 0
ReadsUncertaintyElement z (Ok a) = ElementSaysUncertainty z a
ReadsUncertaintyElement z (Err _) = (a : Option Millimetres) → ElementSaysUncertainty z a → ⊥

abbrev pub ReadsConfidenceElement : ℤ → Result (Option PerCent) Unreadable → Type 0
ReadsConfidenceElement z (Ok a) = ElementSaysConfidence z a
ReadsConfidenceElement z (Err _) = (a : Option PerCent) → ElementSaysConfidence z a → ⊥
