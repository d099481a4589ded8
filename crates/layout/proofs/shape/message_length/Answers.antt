-- A polygon's rows have six octets for each point.
use mathlib.Core.Path.{sym}
use Rattle.layout.proofs.PolygonLaws.{polygon-length}
use Rattle.layout.proofs.shape.message_length.Goals as goal

pub returns-in-Polygon : goal.returns-in-Polygon
returns-in-Polygon c = rw c.in-Polygon.is (sym (polygon-length _))
