-- The one code of a circle covers its radius, each code of an ellipse its axis.
use Rattle.fields.specs.Fields.{uncertainty}
use Rattle.requests.proofs.CodedLaws.{coded-never}
use Rattle.choice.proofs.request_codes.area_codes.Goals as goal

pub returns-in_ok-code-in-Circle : goal.returns-in_ok-code-in-Circle
returns-in_ok-code-in-Circle c =
    let p = c.in_ok-code-in-Circle.ensures in
    rw c.in-Circle.is (coded-never uncertainty _ _ 8 p, record { major = p; minor = p; turn = rw c.in-Circle.is at c.requires })

pub returns-in_ok-uncertainty_code-in-Ellipse-2 : goal.returns-in_ok-uncertainty_code-in-Ellipse-2
returns-in_ok-uncertainty_code-in-Ellipse-2 c =
    let p = c.in_ok-uncertainty_code-in-Ellipse.ensures in
    let q = c.in_ok-uncertainty_code-in-Ellipse-2.ensures in
    rw c.in-Ellipse.is ((coded-never uncertainty _ _ 8 p, coded-never uncertainty _ _ 8 q), record { major = p; minor = q; turn = rw c.in-Ellipse.is at c.requires })
