-- QUANTITIES THAT ARE PUT INTO AN ARRAY are said by it, and arrive, where they are a record's that the writer takes.
use Rattle.std.specs.Prelude.{Option, Some, None, Result}
use Prim.Native.Nat.{ℕ, ◌≤◌, ◌<◌}
use mathlib.Core.Path.{◌≡◌, refl, sym, ap, subst, ◌∙◌}
use mathlib.Core.List.{List, ◌++◌}
use native.Mathlib.Omega.{arith}
use lib.IntN.{ℤ, pos}
use lib.ListN.{length, get_or}
use lib.Signed.{mag}
use borrow.Author.Count.{below_more}
use borrow.Author.Tests.{lt-ltb}
use Rattle.ground.specs.Answers.{unmet, met}
use Rattle.ground.specs.declared.quantity.Nanodegrees.{Nanodegrees}
use Rattle.ground.specs.declared.quantity.PerCent.{PerCent}
use Rattle.ground.specs.declared.quantity.MetresPerHour.{MetresPerHour}
use Rattle.ground.specs.declared.refusals.Refusal.{Refusal}
use Rattle.fields.specs.Fields as field
use Rattle.layout.specs.declared.shape.Kind.{Kind}
use Rattle.layout.specs.declared.shape.Shape.{Shape}
use Rattle.layout.specs.declared.velocity.Velocity.{Velocity}
use Rattle.layout.specs.declared.velocity.VelocityKind.{VelocityKind}
use Rattle.layout.specs.Layout.{Row, type_of, velocity_rows, velocity_type_of}
use Rattle.layout.specs.Layout as layout
use Rattle.layout.specs.Shapes.{kind_of, upto, rows_of, value_of}
use Rattle.layout.specs.Velocities.{velocity_kind_of, velocity_value_of}
use Rattle.layout.proofs.ShapeRecords.{upto-list}
use Rattle.layout.proofs.ShapeTrips as shapes
use Rattle.layout.proofs.VelocityTrips as velocities
use Rattle.layout.proofs.WidthLaws.{code_of, velocity-code-of}
use Rattle.quantities.specs.declared.shape.ShapeQuantities.{ShapeQuantities}
use Rattle.quantities.specs.declared.velocity.VelocityQuantities.{VelocityQuantities}
use Rattle.quantities.specs.Places.{Place, field_of, PlaceQuantities}
use Rattle.quantities.specs.Places as place
use Rattle.quantities.specs.Promises.{CodeAnswer}
use Rattle.quantities.specs.Shapes.{code_at, quantity_at, zero_degrees, TakesShape, QuantitiesOf, CodesShape}
use Rattle.quantities.specs.Velocities.{velocity_code_at, velocity_quantity_at, TakesVelocity, VelocityQuantitiesOf, CodesVelocity}
use Rattle.quantities.proofs.HeldLaws.{taken, count_held, motion-taken}
use Rattle.code_arrays.specs.QuantityNumbers.{quantity_in, Natural32, natural_of, signed_of}
use Rattle.code_arrays.proofs.NumberLaws.{under, natural-is}
use Rattle.quantity_arrays.specs.Numbers.{octet_of, Optional, confidence_of, confidence_element, uncertainty_speed_of, uncertainty_speed_element}
use Rattle.quantity_arrays.specs.Shapes.{quantity_elements, quantities_in, NaturalsArrive, ShapeArrives}
use Rattle.quantity_arrays.specs.Velocities.{velocity_quantity_elements, velocity_quantities_in, VelocityArrives}
use Rattle.array_records.specs.Records.{CodeElementsAnswer, CodesShapeIn}
use Rattle.library.specs.Promises.{CodesVelocityIn}
use Rattle.claims.proofs.SmallQuantities.{Small, each-small}

-- ---- one element

-- a number of an octet
octet-said : {n : ℕ} → n ≤ 255 → octet_of (pos n) ≡ n
octet-said h = sym (under h)

natural-said : {n : ℕ} → n < 4294967296 → natural_of (pos n) ≡ n
natural-said {n} h = sym (natural-is (pos n) h)

signed-said : (z : ℤ) → mag z < 2147483648 → signed_of z ≡ z
signed-said z h = simp (lt-ltb (mag z) 2147483648 h)

confidence-said : (c : Option PerCent) → Small field.confidence c → confidence_of (confidence_element c) ≡ c
confidence-said (Some p) h = λ j. Some (record { 0 = natural-said h j })
confidence-said None h = refl

confidence-arrives : (c : Option PerCent) → Small field.confidence c → Optional (confidence_element c)
confidence-arrives (Some p) h = λ some. h
confidence-arrives None h = λ some. absurd (some refl)

speed-said : (u : Option MetresPerHour) → Small field.uncertainty_speed u → uncertainty_speed_of (uncertainty_speed_element u) ≡ u
speed-said (Some s) h = λ j. Some (record { 0 = natural-said h j })
speed-said None h = refl

speed-arrives : (u : Option MetresPerHour) → Small field.uncertainty_speed u → Optional (uncertainty_speed_element u)
speed-arrives (Some s) h = λ some. h
speed-arrives None h = λ some. absurd (some refl)

-- the kind of a type's number
kind-said : {K : Type 0} (kinds : ℕ → K) {t : ℕ} {k : K} → t < 16 → kinds t ≡ k → kinds (octet_of (pos t)) ≡ k
kind-said kinds h e = ap kinds (octet-said (omega arith)) ∙ e

-- the coordinates of fifteen points
points-said : (coordinates : List Nanodegrees) → length coordinates ≡ 15 → upto 15 (λ i. get_or coordinates i zero_degrees) ≡ coordinates
points-said coordinates e = upto-list (λ i. get_or coordinates i zero_degrees) 15 coordinates zero_degrees e (λ i h. refl)

-- what is answered where all arrive
arrived : {arrives : Type 0} {rows : List Row} {count m : ℕ} {quantity : PlaceQuantities} → arrives → CodeElementsAnswer arrives rows count quantity m → CodeAnswer rows count quantity m
arrived a (unmet p e) = unmet p e
arrived a (met p (unmet q e)) = met p (unmet q e)
arrived a (met p (met q (unmet n e))) = absurd (n a)
arrived a (met p (met q (met b r))) = r

-- ---- a shape's quantities

module _ (x : Shape) (takes : TakesShape x) (q : ShapeQuantities) (reported : QuantitiesOf x q) (rest : List ℤ) where
  small : (p : Place) → Small (field_of p) (quantity_at q p)
  small = each-small (rows_of x) (code_at x) (quantity_at q) reported.each

  type-said : kind_of (octet_of (pos (type_of q.kind))) ≡ q.kind
  type-said =
      let sound = taken x takes in
      subst (λ (k : Kind). kind_of (octet_of (pos (type_of k))) ≡ k) (sym reported.kinds)
      (kind-said kind_of (code_of x.kind x.count (value_of x) sound.fields layout.type_number) (shapes.kind-back x.kind x.count sound.listed))

  quantities-said : quantities_in (quantity_elements q ++ rest) ≡ q
  quantities-said = λ j. record {
    kind = type-said j;
    latitude = q.latitude;
    longitude = q.longitude;
    altitude = record { 0 = signed-said q.altitude.0 (small place.altitude) j };
    uncertainty = record { 0 = natural-said (small place.uncertainty) j };
    semi_major = record { 0 = natural-said (small place.semi_major) j };
    semi_minor = record { 0 = natural-said (small place.semi_minor) j };
    orientation = record { 0 = natural-said (small place.orientation) j };
    altitude_uncertainty = record { 0 = natural-said (small place.altitude_uncertainty) j };
    inner_radius = record { 0 = natural-said (small place.inner_radius) j };
    offset = record { 0 = natural-said (small place.offset) j };
    included = record { 0 = natural-said (small place.included) j };
    confidence = confidence-said q.confidence (small place.confidence) j;
    count = octet-said {n = q.count} (omega (arith, reported.counts, count_held x takes)) j;
    latitudes = points-said q.latitudes reported.all_latitudes j;
    longitudes = points-said q.longitudes reported.all_longitudes j;
  }

  naturals-arrive : NaturalsArrive (quantity_elements q ++ rest)
  naturals-arrive i h l = eight i l h
    where
      Arrives : ℕ → Type 0
      Arrives i = 5 ≤ i → Natural32 (quantity_in (quantity_elements q ++ rest) i)

      eight : (i : ℕ) → i < 13 → Arrives i
      eight =
          below_more Arrives 12
          (below_more Arrives 11
          (below_more Arrives 10
          (below_more Arrives 9
          (below_more Arrives 8
          (below_more Arrives 7
          (below_more Arrives 6 (below_more Arrives 5 (λ i l h. absurd (omega arith)) (λ h. small place.uncertainty)) (λ h. small place.semi_major))
          (λ h. small place.semi_minor))
          (λ h. small place.orientation))
          (λ h. small place.altitude_uncertainty))
          (λ h. small place.inner_radius))
          (λ h. small place.offset))
          (λ h. small place.included)

  shape-arrives : ShapeArrives (quantity_elements q ++ rest)
  shape-arrives = record { level = small place.altitude; sureness = confidence-arrives q.confidence (small place.confidence); naturals = naturals-arrive }

  -- so they are what is coded
  pub shape-coded : (c : Result Shape Refusal) → CodesShapeIn (quantity_elements q ++ rest) c → CodesShape q c
  shape-coded c p = subst (λ (said : ShapeQuantities). CodesShape said c) quantities-said (record { answer = arrived shape-arrives p.answer; shape = p.shape })

-- ---- a velocity's quantities

module _ (x : Velocity) (takes : TakesVelocity x) (q : VelocityQuantities) (reported : VelocityQuantitiesOf x q) (rest : List ℤ) where
  motion-small : (p : Place) → Small (field_of p) (velocity_quantity_at q p)
  motion-small = each-small (velocity_rows x.kind) (velocity_code_at x) (velocity_quantity_at q) reported.each

  motion-type-said : velocity_kind_of (octet_of (pos (velocity_type_of q.kind))) ≡ q.kind
  motion-type-said =
      let sound = motion-taken x takes in
      subst (λ (k : VelocityKind). velocity_kind_of (octet_of (pos (velocity_type_of k))) ≡ k) (sym reported.kinds)
      (kind-said velocity_kind_of (velocity-code-of x.kind (velocity_value_of x) sound.fields layout.type_number) (velocities.kind-back x.kind sound.listed))

  velocity-quantities-said : velocity_quantities_in (velocity_quantity_elements q ++ rest) ≡ q
  velocity-quantities-said = λ j. record {
    kind = motion-type-said j;
    bearing = record { 0 = natural-said (motion-small place.bearing) j };
    horizontal_speed = record { 0 = natural-said (motion-small place.horizontal_speed) j };
    vertical_speed = record { 0 = signed-said q.vertical_speed.0 (motion-small place.vertical_speed) j };
    uncertainty = speed-said q.uncertainty (motion-small place.speed_uncertainty) j;
    vertical_uncertainty = speed-said q.vertical_uncertainty (motion-small place.vertical_uncertainty) j;
  }

  velocity-arrives : VelocityArrives (velocity_quantity_elements q ++ rest)
  velocity-arrives = record {
    turn = motion-small place.bearing;
    speed = motion-small place.horizontal_speed;
    vertical = motion-small place.vertical_speed;
    sureness = speed-arrives q.uncertainty (motion-small place.speed_uncertainty);
    vertical_sureness = speed-arrives q.vertical_uncertainty (motion-small place.vertical_uncertainty);
  }

  pub velocity-coded : (c : Result Velocity Refusal) → CodesVelocityIn (velocity_quantity_elements q ++ rest) c → CodesVelocity q c
  velocity-coded c p = subst (λ (said : VelocityQuantities). CodesVelocity said c) velocity-quantities-said (record { answer = arrived velocity-arrives p.answer; velocity = p.velocity })
