-- What coding a request says.
use Rattle.std.specs.Prelude.{◌≡◌, Option, Result, Ok, Err}
use Rattle.ground.specs.Answers.{number_of, done, Unless}
use Rattle.ground.specs.declared.code.AltitudeUncertaintyCode.{AltitudeUncertaintyCode}
use Rattle.ground.specs.declared.code.OrientationCode.{OrientationCode}
use Rattle.ground.specs.declared.quantity.Millimetres.{Millimetres}
use Rattle.ground.specs.declared.refusals.Refusal.{Refusal}
use Rattle.fields.specs.Fields.{orientation, Coding}
use Rattle.requests.specs.declared.Request.{Request}
use Rattle.requests.specs.declared.Horizontal.{Horizontal}
use Rattle.requests.specs.declared.Horizontal.TheVariants as horizontal
use Rattle.requests.specs.declared.codes.AreaWanted.{AreaWanted}
use Rattle.requests.specs.declared.codes.Wanted.{Wanted}
use Rattle.requests.specs.Ranges.{RequestInRange, RequestCovered, HorizontalInRange, HorizontalCovered, AltitudeUncertaintyCovered}
use Rattle.requests.specs.Codes.{AreaCodes, AltitudeUncertaintyCodes, CodesOf}

-- THE PROMISE: the request's codes, or 7 before 8
abbrev pub CodesRequest : Request → Result Wanted Refusal → Type 0
CodesRequest q (Ok w) = RequestInRange q × RequestCovered q × CodesOf q w
CodesRequest q (Err why) = Unless (RequestInRange q) 7 (Unless (RequestCovered q) 8 (λ n. ⊥)) (number_of why)

-- ---- its parts

-- the asked orientation's code, 0 where none is asked
abbrev pub OrientationOf : Horizontal → OrientationCode → Type 0
OrientationOf (horizontal.Circle R) N = N.0 ≡ 0
OrientationOf (horizontal.Ellipse R S a) N = Coding orientation a (done N)
OrientationOf horizontal.NotAsked N = N.0 ≡ 0

abbrev pub CodesOrientation : Horizontal → Result OrientationCode Refusal → Type 0
CodesOrientation h (Ok N) = HorizontalInRange h × OrientationOf h N
CodesOrientation h (Err why) = (number_of why ≡ 7) × (HorizontalInRange h → ⊥)

abbrev pub CodesArea : Horizontal → Result (Option AreaWanted) Refusal → Type 0
CodesArea h (Ok w) = HorizontalCovered h × AreaCodes h w
CodesArea h (Err why) = (number_of why ≡ 8) × (HorizontalCovered h → ⊥)

abbrev pub CodesHeight : Option Millimetres → Result (Option AltitudeUncertaintyCode) Refusal → Type 0
CodesHeight h (Ok w) = AltitudeUncertaintyCovered h × AltitudeUncertaintyCodes h w
CodesHeight h (Err why) = (number_of why ≡ 8) × (AltitudeUncertaintyCovered h → ⊥)
