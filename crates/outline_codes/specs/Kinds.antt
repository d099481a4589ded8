-- Which quantities a kind of shape uses, from the layout table.
use Rattle.std.specs.Prelude.{Bool, ltb}
use Rattle.layout.specs.declared.shape.Kind.{Kind}
use Rattle.layout.specs.Layout.{MessageField, shape_rows}
use Rattle.layout.specs.Layout as layout
use Rattle.layout.specs.Rows.{width_of}
use Rattle.outline_codes.specs.declared.unused.Uses.{Uses}

abbrev pub uses : Kind → MessageField → Bool
uses k f = ltb 0 (width_of (shape_rows k 0) f)

abbrev pub uses_of : Kind → Uses
uses_of k = record {
  position = uses k (layout.latitude 0);
  altitude = uses k layout.altitude;
  uncertainty = uses k layout.uncertainty;
  axes = uses k layout.semi_major;
  altitude_uncertainty = uses k layout.altitude_uncertainty;
  confidence = uses k layout.confidence;
  arc = uses k layout.inner_radius;
  count = uses k layout.count;
}

abbrev pub uses_given : Bool → Bool → Bool → Bool → Bool → Bool → Bool → Bool → Uses
uses_given a b c d e f g h = record {
  position = a;
  altitude = b;
  uncertainty = c;
  axes = d;
  altitude_uncertainty = e;
  confidence = f;
  arc = g;
  count = h;
}
