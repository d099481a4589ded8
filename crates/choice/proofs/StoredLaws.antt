-- The message of a kind with the codes that are wanted, stored part after part.
use Prim.Native.Nat.{ℕ, ◌*◌, ◌≤◌}
use mathlib.Core.Path.{◌≡◌, sym, ap, subst, ◌∙◌}
use mathlib.Core.List.{List, ◌∷◌, ◌++◌}
use lib.ListN.{length, drop}
use lib.Seq.{sets}
use Rattle.ground.specs.declared.code.LatitudeCode.{LatitudeCode}
use Rattle.ground.specs.declared.code.LongitudeCode.{LongitudeCode}
use Rattle.octets.specs.Codes.{position}
use Rattle.layout.specs.declared.shape.Kind.{Kind}
use Rattle.layout.specs.declared.shape.Kind.TheVariants.{Polygon}
use Rattle.layout.specs.Layout.{Row, shape_rows, type_of}
use Rattle.layout.specs.Rows.{length_of}
use Rattle.layout.specs.Shapes.{rows_of, value_of}
use Rattle.composing.specs.Composing.{rest, ShapeStorable}
use Rattle.composing.proofs.StoreLaws.{run-stored, fixed-message}
use Rattle.requests.specs.declared.codes.Wanted.{Wanted}
use Rattle.requests.specs.Choice.{TakesPart}
use Rattle.requests.specs.Codes.{Tame, message_of, wanted_record}
use Rattle.requests.proofs.RecordLaws.{record-rows, record-sound, record-latitude, record-longitude}

module _ (k : Kind) (w : Wanted) (p : TakesPart k) (t : Tame w) where
  no-polygon : k ≡ Polygon → ⊥
  no-polygon e = subst TakesPart e p

  storable : (room : ℕ) → length_of (shape_rows k 0) ≤ room → ShapeStorable (wanted_record k w) room
  storable room h =
      let s = record-sound k w p t in
      record { listed = s.listed; counted = s.counted; fields = s.fields; fits = subst (λ (rows : List Row). length_of rows ≤ room) (sym (record-rows k w p t)) h }

  -- the first octet, the position and the rest, from the first octet on, are the message
  pub parts-stored : (o : List ℕ) → length_of (shape_rows k 0) ≤ length o
      → sets o 0 ((16 * type_of k) ∷ (position w.latitude w.longitude ++ rest k (wanted_record k w))) ≡ message_of k w ++ drop (length_of (shape_rows k 0)) o
  parts-stored o h =
      let s = storable (length o) h in
      ap (λ (c : LatitudeCode). sets o 0 ((16 * type_of k) ∷ (position c w.longitude ++ rest k (wanted_record k w)))) (sym (record-latitude k w p t))
      ∙ ap (λ (c : LongitudeCode). sets o 0 ((16 * type_of k) ∷ (position (wanted_record k w).latitude c ++ rest k (wanted_record k w)))) (sym (record-longitude k w p t))
      ∙ run-stored (rows_of (wanted_record k w)) (value_of (wanted_record k w)) o _ (fixed-message (wanted_record k w) (length o) s no-polygon) s.fits
      ∙ ap (λ (rows : List Row). message_of k w ++ drop (length_of rows) o) (record-rows k w p t)
