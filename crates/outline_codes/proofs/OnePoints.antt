-- One answer: points that are coded are coded in one way, and they are not points of which one is refused.
use Prim.Native.Nat.{ℕ}
use mathlib.Core.Path.{◌≡◌, refl, sym, ◌∙◌}
use mathlib.Core.Bool.{Bool, true, false}
use mathlib.Core.List.{List}
use lib.Seq.{ext_get_or}
use Rattle.std.specs.Prelude.{Result}
use Rattle.ground.specs.Answers.{done, said_of}
use Rattle.ground.specs.declared.code.LatitudeCode.{LatitudeCode}
use Rattle.ground.specs.declared.code.LongitudeCode.{LongitudeCode}
use Rattle.ground.specs.declared.quantity.Nanodegrees.{Nanodegrees}
use Rattle.ground.specs.declared.refusals.Refusal.{Refusal}
use Rattle.ground.proofs.AnswerLaws.{said-one, one_answer, answer-one}
use Rattle.fields.specs.Fields.{Field, latitude, longitude, CodeOf, QuantityOf, Coding}
use Rattle.fields.proofs.OneAnswer.{coding-one}
use Rattle.layout.specs.Shapes.{zero_latitude, zero_longitude}
use Rattle.outline_codes.specs.declared.points.Points.{Points}
use Rattle.outline_codes.specs.Points.{PointCodes, PointsKept, PointsCodes, CodesPoints}
use Rattle.outline_codes.proofs.PointLaws.{codes-kept}

-- a code that is the quantity's where it is used, and zero where it isn't
code_one : (f : Field) (x : QuantityOf f) (zero c d : CodeOf f) (used : Bool) → (used ≡ true → Coding f x (done c)) → (used ≡ true → Coding f x (done d)) → (used ≡ false → c ≡ zero) → (used ≡ false → d ≡ zero) → c ≡ d
code_one f x zero c d true p q m n = said-one (coding-one f x (done c) (done d) (p refl) (q refl))
code_one f x zero c d false p q m n = m refl ∙ sym (n refl)

module _ {used : Bool} {x y : Nanodegrees} {a b : LatitudeCode} {c d : LongitudeCode} (p : PointCodes used x y a c) (q : PointCodes used x y b d) where
  latitude-one : a ≡ b
  latitude-one = code_one latitude x zero_latitude a b used p.latitudes q.latitudes (λ e. (p.no_latitudes e).1) (λ e. (q.no_latitudes e).1)

  longitude-one : c ≡ d
  longitude-one = code_one longitude y zero_longitude c d used p.longitudes q.longitudes (λ e. (p.no_longitudes e).1) (λ e. (q.no_longitudes e).1)

module _ (xs ys : List Nanodegrees) (n : ℕ) where
  coded-one : (r q : Points) → PointsCodes xs ys n r → PointsCodes xs ys n q → r ≡ q
  coded-one r q p o = λ i. record {
    latitudes = ext_get_or zero_latitude r.latitudes q.latitudes (p.all_latitudes ∙ sym o.all_latitudes) (λ k h. latitude-one (p.each k) (o.each k)) i;
    longitudes = ext_get_or zero_longitude r.longitudes q.longitudes (p.all_longitudes ∙ sym o.all_longitudes) (λ k h. longitude-one (p.each k) (o.each k)) i;
  }

  -- points that are coded are all kept
  all-kept : (r : Points) → PointsCodes xs ys n r → (PointsKept xs ys n → ⊥) → ⊥
  all-kept r p out = out (λ k. codes-kept (p.each k))

  pub points-one : (r q : Result Points Refusal) → CodesPoints xs ys n r → CodesPoints xs ys n q → r ≡ q
  points-one r q p o = answer-one r q (one_answer (PointsCodes xs ys n) 7 (PointsKept xs ys n → ⊥) coded-one all-kept (said_of r) (said_of q) p o)
