-- From what a coder of elements hands back to what is put into the array.
use Rattle.std.specs.Prelude.{Ok, Err}
use Prim.Native.Nat.{ℕ, ◌+◌, ◌*◌, ◌-◌, ◌≤◌, ◌<◌}
use mathlib.Core.Path.{◌≡◌, refl, ◌∙◌}
use mathlib.Core.List.{List}
use lib.IntN.{ℤ}
use lib.ListN.{length, replicate}
use lib.Seq.{sets}
use Rattle.ground.specs.Answers.{number_of, unmet, met}
use Rattle.ground.specs.declared.refusals.Refusal.{Refusal}
use Rattle.ground.specs.declared.refusals.Refusal.TheVariants.{OutOfRange, BufferTooShort}
use Rattle.ground.proofs.AnswerLaws.{not-0}
use Rattle.layout.specs.declared.shape.Shape.{Shape}
use Rattle.quantities.specs.declared.shape.ShapeQuantities.{ShapeQuantities}
use Rattle.quantities.specs.Promises.{CodeAnswer, QuantitiesInRange}
use Rattle.quantities.specs.Shapes.{quantity_at, quantity_rows, CodesShape}
use Rattle.outline_codes.specs.Sizes.{SizesCovered}
use Rattle.records.specs.Kinds.{QuantitiesFormAnswer, Formed}
use Rattle.records.proofs.ShapeLaws.{sizes-covered}
use Rattle.code_arrays.proofs.PutLaws.{no_room, has_room}
use Rattle.code_arrays.specs.Shapes.{single_elements, point_elements, Ended}
use Rattle.code_arrays.proofs.PointLaws.{shape-put}
use Rattle.quantity_arrays.specs.Shapes.{quantities_in, ShapeArrives}
use Rattle.array_records.specs.Records.{CodeElementsAnswer, CodesInto}

module _ (elements : List ℤ) where
  abbrev q : ShapeQuantities
  q = quantities_in elements

  abbrev AnswerIn : ℕ → Type 0
  AnswerIn = CodeElementsAnswer (ShapeArrives elements) (quantity_rows q) q.count (quantity_at q)

  refused-into : {before : List ℕ} (why : Refusal) → AnswerIn (number_of why) → CodesInto elements before before (Err why)
  refused-into why a = record { coded = Err why; promise = record { answer = a; shape = tt }; roomed = refl; array = refl }

  -- ---- 2 and 4, and 7 for what does not arrive

  pub form-into : {before : List ℕ} (why : Refusal) → QuantitiesFormAnswer q.kind q.count (number_of why) → CodesInto elements before before (Err why)
  form-into why a = refused-into why (by a)
    where
      by : QuantitiesFormAnswer q.kind q.count (number_of why) → AnswerIn (number_of why)
      by (unmet p e) = unmet p e
      by (met p (unmet s e)) = met p (unmet s e)
      by (met p (met s e)) = absurd (not-0 why e)

  module _ (formed : Formed q) where
    pub misfit-into : {before : List ℕ} → (ShapeArrives elements → ⊥) → CodesInto elements before before (Err OutOfRange)
    misfit-into n = refused-into OutOfRange (met formed.listed (met formed.counted (unmet n refl)))

    -- ---- what arrives

    module _ (arrives : ShapeArrives elements) where
      arrived : {m : ℕ} → CodeAnswer (quantity_rows q) q.count (quantity_at q) m → AnswerIn m
      arrived a = met formed.listed (met formed.counted (met arrives a))

      module _ {before : List ℕ} where
        pub out-into : (why : Refusal) → number_of why ≡ 7 → (QuantitiesInRange (quantity_rows q) q.count (quantity_at q) → ⊥) → CodesInto elements before before (Err why)
        out-into why e n = refused-into why (arrived (met formed.listed (met formed.counted (unmet n e))))

        pub large-into : (why : Refusal) → number_of why ≡ 8 → QuantitiesInRange (quantity_rows q) q.count (quantity_at q) → (SizesCovered q → ⊥) → CodesInto elements before before (Err why)
        large-into why e r n = refused-into why (arrived (met formed.listed (met formed.counted (met r (unmet (λ c. n (sizes-covered q r c)) e)))))

        module _ (x : Shape) (p : CodesShape q (Ok x)) where
          pub short-into : length before < 61 → CodesInto elements before before (Err BufferTooShort)
          short-into h = record {
            coded = Ok x;
            promise = record { answer = arrived p.answer; shape = p.shape };
            roomed = no_room 61 (length before) h;
            array = refl;
          }

          -- the points are n, and what comes after the m-th is cleared
          pub put-into : {after : List ℕ} (n m : ℕ) → m ≡ n → Ended x.latitudes x.longitudes n → 61 ≤ length before
              → after ≡ sets (sets (sets before 0 (single_elements x)) 16 (point_elements x.latitudes x.longitudes n)) (16 + 3 * m) (replicate (45 - 3 * m) 0) → CodesInto elements before after (Ok tt)
          put-into n m s ended h e = record {
            coded = Ok x;
            promise = record { answer = arrived p.answer; shape = p.shape };
            roomed = has_room 61 (length before) h;
            array = (rw s at e) ∙ shape-put x ended before h;
          }
