-- Of a request whose codes are found to here, what is left to refuse is what is too uncertain.
use Rattle.std.proofs.lemmas.Result.{err_from_is_err_and}
use Rattle.ground.specs.Answers.{done, met, unmet}
use Rattle.ground.specs.declared.code.ConfidenceCode.{ConfidenceCode}
use Rattle.ground.specs.declared.code.LatitudeCode.{LatitudeCode}
use Rattle.ground.specs.declared.code.LongitudeCode.{LongitudeCode}
use Rattle.fields.specs.Fields.{latitude, longitude, confidence, Coding}
use Rattle.requests.specs.declared.Request.{Request}
use Rattle.requests.specs.Ranges.{RequestInRange, HorizontalInRange}
use Rattle.requests.proofs.CodedLaws.{coded-never}
use Rattle.choice.proofs.request_codes.request_codes.Goals as goal

in-range : (q : Request) (a : LatitudeCode) (b : LongitudeCode) (n : ConfidenceCode) → Coding latitude q.latitude (done a) → Coding longitude q.longitude (done b) → Coding confidence q.confidence (done n) → HorizontalInRange q.horizontal → RequestInRange q
in-range q a b n north east sure flat = record {
  latitudes = coded-never latitude q.latitude a 7 north;
  longitudes = coded-never longitude q.longitude b 7 east;
  horizontals = flat;
  confidences = coded-never confidence q.confidence n 7 sure;
}

pub returns-in_err-area : goal.returns-in_err-area
returns-in_err-area c =
    let p = err_from_is_err_and c.from_residual-in_err-area.result c.from_residual-in_err-area.ensures.1 in
    let refused = c.in_err-area.ensures in
    rw (p.1, p.2) (met (in-range c.args.request _ _ c.in_ok-confidence.confidence c.in_ok-latitude.ensures c.in_ok-longitude.ensures c.in_ok-confidence.ensures c.in_ok-orientation.ensures.0) (unmet (λ h. refused.1 h.horizontals) refused.0))

pub returns-in_err-altitude_uncertainty : goal.returns-in_err-altitude_uncertainty
returns-in_err-altitude_uncertainty c =
    let p = err_from_is_err_and c.from_residual-in_err-altitude_uncertainty.result c.from_residual-in_err-altitude_uncertainty.ensures.1 in
    let refused = c.in_err-altitude_uncertainty.ensures in
    rw (p.1, p.2) (met (in-range c.args.request _ _ c.in_ok-confidence.confidence c.in_ok-latitude.ensures c.in_ok-longitude.ensures c.in_ok-confidence.ensures c.in_ok-orientation.ensures.0) (unmet (λ h. refused.1 h.heights) refused.0))

pub returns : goal.returns
returns c =
    let area = c.in_ok-area.ensures in
    let height = c.in_ok-altitude_uncertainty.ensures in (
      in-range c.args.request _ _ c.in_ok-confidence.confidence c.in_ok-latitude.ensures c.in_ok-longitude.ensures c.in_ok-confidence.ensures c.in_ok-orientation.ensures.0,
      record { horizontals = area.0; heights = height.0 },
      record {
        latitudes = c.in_ok-latitude.ensures;
        longitudes = c.in_ok-longitude.ensures;
        altitudes = c.altitude_code.ensures;
        areas = area.1;
        heights = height.1;
        confidences = c.in_ok-confidence.ensures;
      },
    )
