-- The code of what is asked, where it is not refused.
use Rattle.std.specs.Prelude.{◌≡◌, Option, Some, None, Result, Ok, Err, MatchOption, IsSomeAnd}
use Rattle.std.specs.Option.{option_transpose}
use mathlib.Core.Path.{refl}
use Rattle.ground.specs.declared.code.AltitudeUncertaintyCode.{AltitudeUncertaintyCode}
use Rattle.ground.specs.declared.quantity.Millimetres.{Millimetres}
use Rattle.ground.specs.declared.refusals.Refusal.{Refusal}
use Rattle.radii.specs.Radii.{CodedAltitudeUncertainty}
use Rattle.fields.specs.Fields.{altitude_uncertainty}
use Rattle.requests.proofs.CodedLaws.{coded-never}
use Rattle.choice.specs.RequestCodes.{CodesHeight}
use Rattle.choice.proofs.request_codes.height_code.Goals as goal

coded : (h : Option Millimetres) (m : Option (Result AltitudeUncertaintyCode Refusal)) → MatchOption h (m ≡ None) (λ R. IsSomeAnd m (CodedAltitudeUncertainty R)) → CodesHeight h (option_transpose m)
coded None m e = rw e (tt, tt)
coded (Some R) None p = absurd p
coded (Some R) (Some (Ok K)) p = (coded-never altitude_uncertainty R K 8 p, p)
coded (Some R) (Some (Err why)) p = (p.0, λ h. h (refl, p.1))

pub returns : goal.returns
returns c = rw c.transpose.ensures (coded c.args.height c.map.result c.map.ensures.cases)
