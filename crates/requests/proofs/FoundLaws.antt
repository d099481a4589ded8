-- WHICH KIND IS BEST, by what is asked: at most one kind can hold a request, but for an area alone, which a circle and an ellipse
-- can.
use Rattle.std.specs.Prelude.{is_some}
use Prim.Native.Nat.{◌≤◌, ◌<◌}
use mathlib.Core.Path.{◌≡◌, refl, sym, ◌∙◌, subst}
use mathlib.Core.Bool.{true, false}
use native.Mathlib.Omega.{arith}
use Rattle.layout.specs.declared.shape.Kind.{Kind}
use Rattle.layout.specs.declared.shape.Kind.TheVariants.{Point, Circle, Ellipse, AltitudePoint, AltitudeEllipsoid}
use Rattle.requests.specs.declared.codes.Wanted.{Wanted}
use Rattle.requests.specs.Choice.{Before}
use Rattle.requests.specs.Codes.{area_or_0, Able, rank_of, BestKind}
use Rattle.requests.proofs.HoldingLaws.{differ}
use Rattle.requests.proofs.OrderLaws.{ended, place}
use Rattle.requests.proofs.KindLaws.{by_kind, no_lower}

module _ (w : Wanted) where
  by-able : (P : Kind → Type 0) → (Able w Point → P Point) → (Able w Circle → P Circle) → (Able w Ellipse → P Ellipse) → (Able w AltitudePoint → P AltitudePoint) → (Able w AltitudeEllipsoid → P AltitudeEllipsoid) → (k : Kind) → Able w k → P k
  by-able P a b c d e k h = by_kind (λ j. Able w j → P j) a b c d e k h.part h

  -- what is asked for an altitude, an area, an altitude uncertainty
  module _ (high : is_some w.altitude ≡ true) where
    module _ (wide : is_some w.area ≡ true) (tall : is_some w.altitude_uncertainty ≡ true) where
      pub able-ellipsoid : Able w AltitudeEllipsoid
      able-ellipsoid = record { part = tt; altitudes = sym high; areas = sym wide; heights = sym tall; confidences = λ e. absurd (differ e) }

      pub only-ellipsoid : (k : Kind) → Able w k → k ≡ AltitudeEllipsoid
      only-ellipsoid =
          by-able (λ k. k ≡ AltitudeEllipsoid)
          (λ a. absurd (differ (sym (a.altitudes ∙ high))))
          (λ a. absurd (differ (sym (a.altitudes ∙ high))))
          (λ a. absurd (differ (sym (a.altitudes ∙ high))))
          (λ a. absurd (differ (sym (a.areas ∙ wide))))
          (λ a. refl)

    module _ (bare : is_some w.area ≡ false) (flat : is_some w.altitude_uncertainty ≡ false) (none : w.confidence.0 ≡ 0) where
      pub able-level : Able w AltitudePoint
      able-level = record { part = tt; altitudes = sym high; areas = sym bare; heights = sym flat; confidences = λ e. none }

      pub only-level : (k : Kind) → Able w k → k ≡ AltitudePoint
      only-level =
          by-able (λ k. k ≡ AltitudePoint)
          (λ a. absurd (differ (sym (a.altitudes ∙ high))))
          (λ a. absurd (differ (sym (a.altitudes ∙ high))))
          (λ a. absurd (differ (sym (a.altitudes ∙ high))))
          (λ a. refl)
          (λ a. absurd (differ (a.areas ∙ bare)))

  module _ (low : is_some w.altitude ≡ false) where
    module _ (bare : is_some w.area ≡ false) where
      pub only-point : (k : Kind) → Able w k → k ≡ Point
      only-point =
          by-able (λ k. k ≡ Point)
          (λ a. refl)
          (λ a. absurd (differ (a.areas ∙ bare)))
          (λ a. absurd (differ (a.areas ∙ bare)))
          (λ a. absurd (differ (a.altitudes ∙ low)))
          (λ a. absurd (differ (a.altitudes ∙ low)))

      pub able-point : is_some w.altitude_uncertainty ≡ false → w.confidence.0 ≡ 0 → Able w Point
      able-point flat none = record { part = tt; altitudes = sym low; areas = sym bare; heights = sym flat; confidences = λ e. none }

    module _ (wide : is_some w.area ≡ true) where
      -- a circle or an ellipse
      pub by-area : (P : Kind → Type 0) → (Able w Circle → P Circle) → (Able w Ellipse → P Ellipse) → (k : Kind) → Able w k → P k
      by-area P c e =
          by-able P
          (λ a. absurd (differ (sym (a.areas ∙ wide))))
          c
          e
          (λ a. absurd (differ (a.altitudes ∙ low)))
          (λ a. absurd (differ (a.altitudes ∙ low)))

      module _ (flat : is_some w.altitude_uncertainty ≡ false) where
        pub able-ellipse : Able w Ellipse
        able-ellipse = record { part = tt; altitudes = sym low; areas = sym wide; heights = sym flat; confidences = λ e. absurd (differ e) }

        pub able-circle : w.confidence.0 ≡ 0 → Able w Circle
        able-circle none = record { part = tt; altitudes = sym low; areas = sym wide; heights = sym flat; confidences = λ e. none }

module _ (w : Wanted) (taken : Kind → Type 0) where
  not_itself : (k : Kind) → Before (rank_of k w) (rank_of k w) → ⊥
  not_itself k = no_lower (omega arith) (omega arith) (omega arith)

  -- the only kind that can hold it is the best
  pub only-best : (k : Kind) → Able w k → ((j : Kind) → Able w j → taken j → j ≡ k) → taken k → BestKind w taken k
  only-best k a only l = record {
    able = a;
    listed = l;
    none_before = λ j b t. subst (λ (i : Kind). Before (rank_of i w) (rank_of k w) → ⊥) (sym (only j b t)) (not_itself k);
  }

  module _ (low : is_some w.altitude ≡ false) (wide : is_some w.area ≡ true) where
    -- a circle for axes of one code, or where no ellipse is taken
    pub circle-best : Able w Circle → taken Circle → (taken Ellipse → (area_or_0 w.area).semi_major.0 ≤ (area_or_0 w.area).semi_minor.0) → BestKind w taken Circle
    circle-best a l round = record {
      able = a;
      listed = l;
      none_before = by-area w low wide (λ j. taken j → Before (rank_of j w) (rank_of Circle w) → ⊥)
          (λ b t. not_itself Circle)
          (λ b t. let e = round t in place (omega arith) (λ _. place (omega arith) (λ _. place (omega arith) (λ _. place (omega arith) (λ _. ended refl)))));
    }

    -- an ellipse where it is tighter, or where no circle is taken
    pub ellipse-best : Able w Ellipse → taken Ellipse → (Able w Circle → taken Circle → (area_or_0 w.area).semi_minor.0 < (area_or_0 w.area).semi_major.0) → BestKind w taken Ellipse
    ellipse-best a l tighter = record {
      able = a;
      listed = l;
      none_before = by-area w low wide (λ j. taken j → Before (rank_of j w) (rank_of Ellipse w) → ⊥)
          (λ b t. let e = tighter b t in place (omega arith) (λ _. place (omega arith) (λ d. absurd (omega arith))))
          (λ b t. not_itself Ellipse);
    }
