-- FROM RECORDS TO MESSAGES: what is the best message of one kind, and which kind is best, over all octet strings.
use Rattle.std.specs.Prelude.{Option, Some, None, is_some}
use Prim.Native.Nat.{ℕ, ◌≤◌}
use mathlib.Core.Path.{◌≡◌, refl, sym, ap, ◌∙◌, subst}
use mathlib.Core.Bool.{true, false}
use mathlib.Core.List.{List}
use native.Mathlib.Omega.{arith}
use lib.ListN.{length}
use Rattle.ground.specs.declared.code.AltitudeCode.{AltitudeCode}
use Rattle.ground.specs.declared.code.AltitudeUncertaintyCode.{AltitudeUncertaintyCode}
use Rattle.layout.specs.declared.shape.Kind.{Kind}
use Rattle.layout.specs.declared.shape.Kind.TheVariants.{Point, Circle, Ellipse, AltitudePoint, AltitudeEllipsoid}
use Rattle.layout.specs.declared.shape.Shape.{Shape}
use Rattle.layout.specs.Layout.{shape_rows}
use Rattle.layout.specs.Rows.{length_of, message}
use Rattle.layout.specs.Shapes.{rows_in, shape_in, rows_of, value_of}
use Rattle.layout.proofs.TidyLaws.{message-length, message-octets}
use Rattle.layout.proofs.DemandLaws.{Readable, readable, read_done}
use Rattle.layout.proofs.ShapeTrips.{rows-read, readable-message, record-message}
use Rattle.requests.specs.declared.Request.{Request}
use Rattle.requests.specs.declared.codes.Wanted.{Wanted}
use Rattle.requests.specs.declared.codes.AreaWanted.{AreaWanted}
use Rattle.requests.specs.Holding.{circle, ellipse, no_area, Holds}
use Rattle.requests.specs.Choice.{TakesPart, Candidate, Before, rank, Better, Best}
use Rattle.requests.specs.Codes.{CodesOf, altitude_or_0, area_or_0, height_or_0, FitsAltitude, FitsArea, FitsAltitudeUncertainty, Fits, Tame, Able, wanted_record, message_of, rank_of, BestKind}
use Rattle.requests.proofs.HoldingLaws.{differ, fitted, holding}
use Rattle.requests.proofs.OrderLaws.{not-before-trans}
use Rattle.requests.proofs.KindLaws.{by_kind, part-rows, fits-able, none-lower}
use Rattle.requests.proofs.RecordLaws.{record-sound, record-whole, record-rows, record-latitude, record-longitude, point-altitude, ellipsoid-altitude}

-- a message's length is that of its kind
pub length-of : (s : List ℕ) → Readable (rows_in s) s → TakesPart (shape_in s).kind → length s ≡ length_of (shape_rows (shape_in s).kind 0)
length-of s r part = r.long ∙ ap length_of (sym (rows-read s r) ∙ part-rows (shape_in s).kind part (shape_in s).count)

-- no message that takes part is longer than 14 octets
pub at-most-14 : {q : Request} {taken : Kind → Type 0} (s : List ℕ) → Candidate q taken s → length s ≤ 14
at-most-14 s c = rw (length-of s (readable (rows_in s) s c.readable) c.part) (by_kind (λ k. length_of (shape_rows k 0) ≤ 14) (omega arith) (omega arith) (omega arith) (omega arith) (omega arith) (shape_in s).kind c.part)

-- ---- what has the wanted code, where one is asked, fits, and what has none, where none is

none-fits : (w : Option AltitudeCode) → false ≡ is_some w → FitsAltitude w None
none-fits (Some a) e = absurd (differ (sym e))
none-fits None e = tt

own-fits : (w : Option AltitudeCode) (c : AltitudeCode) → true ≡ is_some w → c ≡ altitude_or_0 w → FitsAltitude w (Some c)
own-fits (Some a) c e h = h
own-fits None c e h = absurd (differ e)

no-area-fits : (w : Option AreaWanted) → false ≡ is_some w → FitsArea w no_area
no-area-fits (Some a) e = absurd (differ (sym e))
no-area-fits None e = tt

circle-fits : (w : Option AreaWanted) → true ≡ is_some w → FitsArea w (circle (area_or_0 w).semi_major)
circle-fits (Some a) e = omega arith
circle-fits None e = absurd (differ e)

axes-fit : (w : Option AreaWanted) → true ≡ is_some w → FitsArea w (ellipse (area_or_0 w).semi_major (area_or_0 w).semi_minor (area_or_0 w).orientation)
axes-fit (Some a) e = (omega arith, omega arith, refl)
axes-fit None e = absurd (differ e)

no-height-fits : (w : Option AltitudeUncertaintyCode) → false ≡ is_some w → FitsAltitudeUncertainty w None
no-height-fits (Some a) e = absurd (differ (sym e))
no-height-fits None e = tt

height-fits : (w : Option AltitudeUncertaintyCode) → true ≡ is_some w → FitsAltitudeUncertainty w (Some (height_or_0 w))
height-fits (Some a) e = omega arith
height-fits None e = absurd (differ e)

module _ (w : Wanted) (t : Tame w) where
  -- the record of a kind that can hold what is wanted fits it
  record-fits : (k : Kind) → TakesPart k → Able w k → Fits w (wanted_record k w)
  record-fits = by_kind (λ k. Able w k → Fits w (wanted_record k w))
      (λ a. record { latitudes = record-latitude Point w tt t; longitudes = record-longitude Point w tt t; altitudes = none-fits w.altitude a.altitudes; areas = no-area-fits w.area a.areas; heights = no-height-fits w.altitude_uncertainty a.heights; confidences = a.confidences refl })
      (λ a. record { latitudes = record-latitude Circle w tt t; longitudes = record-longitude Circle w tt t; altitudes = none-fits w.altitude a.altitudes; areas = circle-fits w.area a.areas; heights = no-height-fits w.altitude_uncertainty a.heights; confidences = a.confidences refl })
      (λ a. record { latitudes = record-latitude Ellipse w tt t; longitudes = record-longitude Ellipse w tt t; altitudes = none-fits w.altitude a.altitudes; areas = axes-fit w.area a.areas; heights = no-height-fits w.altitude_uncertainty a.heights; confidences = refl })
      (λ a. record { latitudes = record-latitude AltitudePoint w tt t; longitudes = record-longitude AltitudePoint w tt t; altitudes = own-fits w.altitude _ a.altitudes (point-altitude w); areas = no-area-fits w.area a.areas; heights = no-height-fits w.altitude_uncertainty a.heights; confidences = a.confidences refl })
      (λ a. record { latitudes = record-latitude AltitudeEllipsoid w tt t; longitudes = record-longitude AltitudeEllipsoid w tt t; altitudes = own-fits w.altitude _ a.altitudes (ellipsoid-altitude w); areas = axes-fit w.area a.areas; heights = height-fits w.altitude_uncertainty a.heights; confidences = refl })

  -- ---- the message of a kind

  module _ (k : Kind) (part : TakesPart k) where
    message-back : shape_in (message_of k w) ≡ wanted_record k w
    message-back = record-message (wanted_record k w) (record-sound k w part t) (record-whole k w part t)

    message-readable : Readable (rows_in (message_of k w)) (message_of k w)
    message-readable = readable-message (wanted_record k w) (record-sound k w part t)

    pub message-long : length (message_of k w) ≡ length_of (shape_rows k 0)
    message-long = message-length (rows_of (wanted_record k w)) (value_of (wanted_record k w)) ∙ ap length_of (record-rows k w part t)

    pub message-rank : rank (shape_in (message_of k w)) (length (message_of k w)) ≡ rank_of k w
    message-rank = ap (λ (x : Shape). rank x (length (message_of k w))) message-back ∙ ap (rank (wanted_record k w)) message-long

module _ (q : Request) (w : Wanted) (p : CodesOf q w) (t : Tame w) where
  candidate-able : {taken : Kind → Type 0} (s : List ℕ) → Candidate q taken s → Able w (shape_in s).kind
  candidate-able s c = fits-able w (shape_in s) c.part (fitted q w p (shape_in s) c.holds)

  -- no kind that is taken can hold it: no message does
  pub none-hold : (taken : Kind → Type 0) → ((k : Kind) → Able w k → taken k → ⊥) → (s : List ℕ) → Candidate q taken s → ⊥
  none-hold taken none s c = none (shape_in s).kind (candidate-able s c) c.listed

  module _ (k : Kind) (a : Able w k) where
    own-candidate : (taken : Kind → Type 0) → taken k → Candidate q taken (message_of k w)
    own-candidate taken l =
        let back = message-back w t k a.part in
        record {
          octets = message-octets (rows_of (wanted_record k w)) (value_of (wanted_record k w));
          readable = read_done (rows_in (message_of k w)) (message_of k w) (message-readable w t k a.part);
          part = subst (λ (x : Shape). TakesPart x.kind) (sym back) a.part;
          listed = subst (λ (x : Shape). taken x.kind) (sym back) l;
          holds = subst (Holds q) (sym back) (holding q w p (wanted_record k w) (record-fits w t k a.part a));
        }

    -- no message of the kind is better
    own-best : (s : List ℕ) → Candidate q (λ j. j ≡ k) s → Better s (message_of k w) → ⊥
    own-best s c b =
        let r = readable (rows_in s) s c.readable in
        none-lower w (shape_in s) c.part (fitted q w p (shape_in s) c.holds)
        (subst (λ (j : Kind). Before (rank (shape_in s) (length_of (shape_rows (shape_in s).kind 0))) (rank_of j w)) (sym c.listed)
        (subst (λ (n : ℕ). Before (rank (shape_in s) n) (rank_of k w)) (length-of s r c.part)
        (subst (λ (m : List ℕ). Before (rank (shape_in s) (length s)) m) (message-rank w t k a.part) b)))

    own-record : message_of k w ≡ message (rows_of (shape_in (message_of k w))) (value_of (shape_in (message_of k w)))
    own-record = ap (λ (x : Shape). message (rows_of x) (value_of x)) (sym (message-back w t k a.part))

    -- WHAT IS THE BEST MESSAGE OF ONE KIND: the one of the wanted codes
    pub best-of-kind : Best q (λ j. j ≡ k) (message_of k w)
    best-of-kind = record { candidate = own-candidate (λ j. j ≡ k) refl; none_better = own-best; own = own-record }

  -- WHICH KIND IS BEST: the message of the best kind is the best of all
  pub best-of-kinds : (taken : Kind → Type 0) (k : Kind) → BestKind w taken k → Best q taken (message_of k w)
  best-of-kinds taken k b = record {
    candidate = own-candidate k b.able taken b.listed;
    none_better = λ s c h.
        let j = (shape_in s).kind in
        let a = candidate-able s c in
        let own = (best-of-kind j a).none_better s (record { octets = c.octets; readable = c.readable; part = c.part; listed = refl; holds = c.holds }) in
        not-before-trans
        (subst (λ (m : List ℕ). Before (rank (shape_in s) (length s)) m → ⊥) (message-rank w t j a.part) own)
        (b.none_before j a c.listed)
        (subst (λ (m : List ℕ). Before (rank (shape_in s) (length s)) m) (message-rank w t k b.able.part) h);
    own = own-record k b.able;
  }
