-- The starred bench figures hold.
use Rattle.std.specs.Prelude.{Some, None}
use mathlib.Core.Path.{◌≡◌, refl, subst}
use mathlib.Core.Bool.{true, false}
use mathlib.Core.List.{List, [], ◌∷◌, ◌++◌}
use Prim.Native.Nat.{ℕ, ◌*◌, ◌-◌, ◌^◌, ◌≤◌}
use native.Mathlib.Nat.{not-le_of_lt}
use native.Mathlib.Omega.{arith}
use lib.Dec.{T, leb, ltb, leb→le, ltb→lt}
use lib.IntN.{ℤ, negsuc, nat_abs}
use borrow.Author.Rules.{rules}
use Rattle.ground.specs.Answers.{done}
use Rattle.ground.specs.Sets.{LeastCode}
use Rattle.ground.proofs.SetLaws.{below_one}
use Rattle.radii.specs.Covering.{Covers}
use Rattle.radii.proofs.CoverLaws.{covers_up}
use Rattle.coordinates.specs.Latitude.{LatitudeSet}
use Rattle.octets.specs.Codes.{from_complement}
use Rattle.fields.specs.Fields.{Coding}
use Rattle.fields.specs.Fields as field
use Rattle.layout.specs.declared.shape.Kind.{Kind}
use Rattle.layout.specs.declared.shape.Kind.TheVariants.{Circle, Ellipse}
use Rattle.requests.specs.declared.codes.Wanted.{Wanted}
use Rattle.requests.specs.Ranges.{RequestInRange, RequestCovered}
use Rattle.requests.specs.Choice.{Listed, writes}
use Rattle.requests.specs.Codes.{CodesOf, BestKind, message_of}
use Rattle.requests.proofs.CodedLaws.{coded-never}
use Rattle.requests.proofs.TameLaws.{tame}
use Rattle.requests.proofs.FoundLaws.{able-circle, able-ellipse, circle-best, ellipse-best}
use Rattle.requests.proofs.BestLaws.{best-of-kinds}
use Rattle.claims.specs.Figures.{Figure, chooses, FigureHolds, Each, asking, latitudes, longitudes, radii, heights, angles, speeds, choices, Starred}

-- the least code, where it is written out and is not 0, by two comparisons
least_at : (scale num den R K : ℕ) → T (leb den num) → T (leb K 127) → T (leb (R * den ^ K) (scale * (num ^ K - den ^ K))) → T (ltb (scale * (num ^ (K - 1) - den ^ (K - 1))) (R * den ^ (K - 1))) → LeastCode (Covers scale num den) 127 R K
least_at scale num den R K g h p q = record {
  code = leb→le K 127 h;
  covered = record { within = leb→le _ _ p };
  least = λ J l r. not-le_of_lt (ltb→lt _ _ q) (covers_up (leb→le den num g) (K - 1) (omega arith) r).within;
}

-- no latitude of the south is nearer than a nanodegree
south_zero : (y : ℤ) → LatitudeSet (record { 0 = true; 1 = 0 }) y → 1 ≤ nat_abs y
south_zero y p = below_one y p.sign

ruleset each = (rules, least_at, south_zero)

-- ---- the choice

abbrev wanted : ℕ → Wanted
wanted J = record {
  latitude = record { 0 = false; 1 = 4194304 };
  longitude = record { 0 = negsuc 4194303 };
  altitude = None;
  area = Some (record { semi_major = record { 0 = 20 }; semi_minor = record { 0 = J }; orientation = record { 0 = 30 } });
  altitude_uncertainty = None;
  confidence = record { 0 = 0 };
}

module _ (S J : ℕ) (order : S ≤ 57274) (minor : Coding field.uncertainty (record { 0 = S }) (done (record { 0 = J }))) where
  latitude : Coding field.latitude (asking S).latitude (done (wanted J).latitude)
  latitude = search each

  longitude : Coding field.longitude (asking S).longitude (done (wanted J).longitude)
  longitude = search each

  major : Coding field.uncertainty (record { 0 = 57274 }) (done (record { 0 = 20 }))
  major = search each

  turn : Coding field.orientation (record { 0 = 30000 }) (done (record { 0 = 30 }))
  turn = search each

  codes : CodesOf (asking S) (wanted J)
  codes = record { latitudes = latitude; longitudes = longitude; altitudes = tt; areas = record { major = major; minor = minor; turn = turn }; heights = tt; confidences = refl }

  ranged : RequestInRange (asking S)
  ranged = record {
    latitudes = coded-never field.latitude _ _ 7 latitude;
    longitudes = coded-never field.longitude _ _ 7 longitude;
    horizontals = (order, coded-never field.orientation _ _ 7 turn);
    confidences = coded-never field.confidence None (record { 0 = 0 }) 7 refl;
  }

  covered : RequestCovered (asking S)
  covered = record { horizontals = (coded-never field.uncertainty _ _ 8 major, coded-never field.uncertainty _ _ 8 minor); heights = tt }

  -- the message of the best kind is chosen
  chosen : (k : Kind) (s : List ℕ) → BestKind (wanted J) (Listed 10) k → message_of k (wanted J) ≡ s → FigureHolds (chooses (asking S) 10 s)
  chosen k s best e = subst (λ (m : List ℕ). FigureHolds (chooses (asking S) 10 m)) e
      (λ before room. writes ranged covered (best-of-kinds (asking S) (wanted J) codes (tame (asking S) (wanted J) codes) (Listed 10) k best) room)

-- the ellipse is no tighter: its two codes are the circle's
round : BestKind (wanted 20) (Listed 10) Circle
round = circle-best (wanted 20) (Listed 10) refl refl (able-circle (wanted 20) refl refl refl refl) refl (λ t. omega arith)

-- it is: 19 is below 20
tighter : BestKind (wanted 19) (Listed 10) Ellipse
tighter = ellipse-best (wanted 19) (Listed 10) refl refl (able-ellipse (wanted 19) refl refl refl) refl (λ a t. omega arith)

joined : (xs ys : List Figure) → Each xs → Each ys → Each (xs ++ ys)
joined [] ys a b = b
joined (x ∷ xs) ys a b = (a.0, joined xs ys a.1 b)

chosen-figures : Each choices
unfolding from_complement
chosen-figures = (chosen 51160 20 (omega arith) (search each) Circle _ round refl, (chosen 51159 19 (omega arith) (search each) Ellipse _ tighter refl, tt))

pub starred : Starred
starred =
    joined latitudes (longitudes ++ radii ++ heights ++ angles ++ speeds ++ choices) (search each)
    (joined longitudes (radii ++ heights ++ angles ++ speeds ++ choices) (search each)
    (joined radii (heights ++ angles ++ speeds ++ choices) (search each)
    (joined heights (angles ++ speeds ++ choices) (search each)
    (joined angles (speeds ++ choices) (search each)
    (joined speeds choices (search each) chosen-figures)))))
