-- ONE ARGUMENT over the places of any record, from the laws of their fields: what is reported and what is coded is one thing,
-- and codes that are reported and coded again are those codes.
use Prim.Native.Nat.{ℕ, ◌+◌, ◌≤◌, ◌<◌}
use mathlib.Core.Path.{◌≡◌, refl, ap, sym, ◌∙◌}
use mathlib.Core.List.{List}
use native.Mathlib.Omega.{arith}
use Rattle.ground.specs.Answers.{done, refused, met, unmet}
use Rattle.ground.specs.declared.code.UncertaintyCode.{UncertaintyCode}
use Rattle.ground.proofs.AnswerLaws.{unless-one, zero_one, said-one, done-not-refused}
use Rattle.radii.proofs.CoverLaws.{covers_up}
use Rattle.fields.specs.Fields.{Coding}
use Rattle.fields.proofs.OneAnswer.{coding-one, reporting-one}
use Rattle.fields.proofs.Kept.{covering-rises, kept}
use Rattle.layout.specs.Layout.{Row}
use Rattle.layout.specs.Layout as layout
use Rattle.layout.specs.Demands.{TypeKnown, Used, CountSound}
use Rattle.quantities.specs.Places.{Place, semi_major, semi_minor, field_of, row_of, PlaceCodes, PlaceQuantities, Unused, zero_code}
use Rattle.quantities.proofs.UnusedLaws.{by-use}
use Rattle.quantities.specs.Promises.{EachReported, EachCoded, CodeAnswer}

module _ (rows : List Row) where
  -- ---- one answer

  pub reported-same : (code : PlaceCodes) (q r : PlaceQuantities) → EachReported rows code q → EachReported rows code r → (p : Place) → q p ≡ r p
  reported-same code q r a b p =
      by-use rows (row_of p) (q p ≡ r p)
      (λ u. said-one (reporting-one (field_of p) (code p) (done (q p)) (done (r p)) (a.used p u) (b.used p u)))
      (λ e. a.unused p e ∙ sym (b.unused p e))

  pub coded-same : (quantity : PlaceQuantities) (c d : PlaceCodes) → EachCoded rows quantity c → EachCoded rows quantity d → (p : Place) → c p ≡ d p
  coded-same quantity c d a b p =
      by-use rows (row_of p) (c p ≡ d p)
      (λ u. said-one (coding-one (field_of p) (quantity p) (done (c p)) (done (d p)) (a.used p u) (b.used p u)))
      (λ e. a.unused p e ∙ sym (b.unused p e))

  pub code-answer-one : (n : ℕ) (quantity : PlaceQuantities) (a b : ℕ) → CodeAnswer rows n quantity a → CodeAnswer rows n quantity b → a ≡ b
  code-answer-one n quantity =
      unless-one _ 2 _ (unless-one _ 4 _ (unless-one _ 7 _ (unless-one _ 8 _ zero_one)))

  -- ---- reported and coded again

  module _ (code : PlaceCodes) (quantity : PlaceQuantities) (reported : EachReported rows code quantity) (zeros : (p : Place) → Unused rows (row_of p) → code p ≡ zero_code (field_of p)) where
    never : (p : Place) (n : ℕ) → Used rows (row_of p) → Coding (field_of p) (quantity p) (refused n) → ⊥
    never p n u c = done-not-refused (sym (kept (field_of p) (code p) (quantity p) (refused n) (reported.used p u) c))

    pub coded-back : (d : PlaceCodes) → EachCoded rows quantity d → (p : Place) → d p ≡ code p
    coded-back d c p =
        by-use rows (row_of p) (d p ≡ code p)
        (λ u. said-one (kept (field_of p) (code p) (quantity p) (done (d p)) (reported.used p u) (c.used p u)))
        (λ e. c.unused p e ∙ sym (zeros p e))

    module _ (together : Used rows layout.semi_minor → Used rows layout.semi_major) (order : (code semi_minor).0 ≤ (code semi_major).0) where
      -- a code that is not above another reports no more
      axes : (quantity semi_minor).0 ≤ (quantity semi_major).0
      axes =
          by-use rows layout.semi_minor ((quantity semi_minor).0 ≤ (quantity semi_major).0)
          (λ u.
          let minor = reported.used semi_minor u in
          let major = reported.used semi_major (together u) in
          major.greatest (quantity semi_minor).0 (covers_up (omega arith) (code semi_major).0 order minor.covered))
          (λ e. let z = reported.unused semi_minor e in rw z (omega arith))

      pub answer_back : (n : ℕ) → TypeKnown rows → CountSound rows (λ f. n) → (Unused rows layout.count → n ≡ 0) → CodeAnswer rows n quantity 0
      answer_back n listed counted uncounted =
          met listed
          (met counted
          (met (record { used = λ p. never p 7; unused = reported.unused; uncounted = uncounted; axes = axes })
          (met (record { used = λ p. never p 8 }) refl)))

    module _ (together : Used rows layout.semi_minor → Used rows layout.semi_major) (exchanged : (code semi_major).0 < (code semi_minor).0) where
      -- a code that is above another reports more
      axes-not : (quantity semi_minor).0 ≤ (quantity semi_major).0 → ⊥
      axes-not h =
          by-use rows layout.semi_minor ⊥
          (λ u.
          let minor = reported.used semi_minor u in
          let major = reported.used semi_major (together u) in
          let more = minor.greatest ((quantity semi_major).0 + 1) (covering-rises 10000 11 10 (omega arith) (omega arith) (code semi_major).0 (code semi_minor).0 (quantity semi_major).0 exchanged major.covered) in
          omega arith)
          (λ e. omega (arith, ap (λ (c : UncertaintyCode). c.0) (zeros semi_minor e)))

      pub answer-exchanged : (n : ℕ) → TypeKnown rows → CountSound rows (λ f. n) → CodeAnswer rows n quantity 7
      answer-exchanged n listed counted = met listed (met counted (unmet (λ k. axes-not k.axes) refl))
