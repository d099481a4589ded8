-- CODES THAT ARE PUT INTO AN ARRAY say the record that they are of; and codes that the writer takes say the record that is made
-- of them.
use Prim.Native.Nat.{ℕ, suc}
use mathlib.Core.Path.{◌≡◌, refl, sym, ap, subst, ◌∙◌}
use mathlib.Core.List.{List, ◌++◌}
use native.Mathlib.Omega.{arith}
use Rattle.layout.specs.declared.shape.Kind.{Kind}
use Rattle.layout.specs.declared.shape.Shape.{Shape}
use Rattle.layout.specs.declared.velocity.Velocity.{Velocity}
use Rattle.layout.specs.Layout.{MessageField, Row, shape_rows, velocity_rows}
use Rattle.layout.specs.Layout as layout
use Rattle.layout.specs.Rows.{length_of}
use Rattle.layout.specs.Demands.{WriteAnswer}
use Rattle.layout.specs.Shapes.{rows_of, value_of, Fifteen}
use Rattle.layout.specs.Velocities.{velocity_kind_of, velocity_value_of}
use Rattle.layout.proofs.DemandLaws.{sound}
use Rattle.layout.proofs.ShapeTrips as shapes
use Rattle.layout.proofs.VelocityTrips as velocities
use Rattle.layout.proofs.WidthLaws.{velocity-code-of}
use Rattle.quantities.specs.Places as place
use Rattle.quantities.specs.Shapes.{TakesShape}
use Rattle.quantities.specs.Velocities.{TakesVelocity}
use Rattle.quantities.proofs.HeldLaws.{taken, shape-held, motion-taken}
use Rattle.writing.proofs.ElementLaws.{Held, value-said}
use Rattle.code_arrays.specs.Shapes.{shape_elements, array_rows, value_in, record_in}
use Rattle.code_arrays.specs.Velocities.{velocity_elements, array_velocity_rows, velocity_value_in, velocity_record_in}
use Rattle.code_arrays.proofs.ArrayRecords.{record-values}

-- codes of these rows and numbers say a record of those: they are the same
pub record Says (rows rows' : List Row) (value value' : MessageField → ℕ) : Type 0 where
  pub rows_same : rows ≡ rows'
  pub value_same : (f : MessageField) → value f ≡ value' f

-- what holds of the codes' holds of the record's
pub as_said : {rows rows' : List Row} {value value' : MessageField → ℕ} → Says rows rows' value value' → (P : List Row → (MessageField → ℕ) → Type 0) → P rows value → P rows' value'
as_said {rows} {rows'} {value} says P h = subst (P rows') (λ i f. says.value_same f i) (subst (λ (r : List Row). P r value) says.rows_same h)

-- ---- shapes

-- the array's other elements say nothing
first-say : (x : Shape) (rest : List ℕ) (f : MessageField) → value_in (shape_elements x ++ rest) f ≡ value_in (shape_elements x) f
first-say x rest f = elim f [
  | layout.type_number ↦ refl
  | layout.count ↦ refl
  | layout.south i ↦ refl
  | layout.latitude i ↦ refl
  | layout.longitude i ↦ refl
  | layout.depth ↦ refl
  | layout.altitude ↦ refl
  | layout.uncertainty ↦ refl
  | layout.semi_major ↦ refl
  | layout.semi_minor ↦ refl
  | layout.orientation ↦ refl
  | layout.altitude_uncertainty ↦ refl
  | layout.confidence ↦ refl
  | layout.inner_radius ↦ refl
  | layout.offset ↦ refl
  | layout.included ↦ refl
  | layout.bearing ↦ refl
  | layout.horizontal_speed ↦ refl
  | layout.down ↦ refl
  | layout.vertical_speed ↦ refl
  | layout.speed_uncertainty ↦ refl
  | layout.vertical_uncertainty ↦ refl
]

module _ (x : Shape) (fifteen : Fifteen x) (takes : TakesShape x) where
  held : Held x
  held = record {
    latitudes = fifteen.all_latitudes;
    longitudes = fifteen.all_longitudes;
    turn = omega (arith, shape-held x takes (place.longitude 0));
    turns = λ i. omega (arith, shape-held x takes (place.longitude (suc i)));
  }

  pub shape-said : {codes : List ℕ} (rest : List ℕ) → codes ≡ shape_elements x ++ rest → Says (array_rows codes) (rows_of x) (value_in codes) (value_of x)
  shape-said rest e = subst (λ (codes : List ℕ). Says (array_rows codes) (rows_of x) (value_in codes) (value_of x)) (sym e) (record {
    rows_same = ap (λ (k : Kind). shape_rows k x.count) (shapes.kind-back x.kind x.count (taken x takes).listed);
    value_same = λ f. first-say x rest f ∙ value-said x held f;
  })

pub fifteen-of-codes : (codes : List ℕ) → Fifteen (record_in codes)
fifteen-of-codes codes = record { all_latitudes = refl; all_longitudes = refl }

-- codes that the writer takes
module _ (codes : List ℕ) (takes : WriteAnswer (array_rows codes) (value_in codes) (length_of (array_rows codes)) 0) where
  pub shape-of-codes : Says (array_rows codes) (rows_of (record_in codes)) (value_in codes) (value_of (record_in codes))
  shape-of-codes =
      let s = (sound (array_rows codes) (value_in codes) (length_of (array_rows codes)) takes).0 in
      record { rows_same = refl; value_same = λ f. sym (record-values codes s.listed s.fields f) }

  pub takes-shape : TakesShape (record_in codes)
  takes-shape = as_said shape-of-codes (λ rows value. WriteAnswer rows value (length_of rows) 0) takes

  pub shape_same : (rest : List ℕ) (f : MessageField) → value_in (shape_elements (record_in codes) ++ rest) f ≡ value_in codes f
  shape_same rest f = (shape-said (record_in codes) (fifteen-of-codes codes) takes-shape rest refl).value_same f ∙ sym (shape-of-codes.value_same f)

-- ---- velocities

own-elements-say : (x : Velocity) (rest : List ℕ) (f : MessageField) → velocity_value_in (velocity_elements x ++ rest) f ≡ velocity_value_of x f
own-elements-say x rest f = elim f [
  | layout.type_number ↦ refl
  | layout.count ↦ refl
  | layout.south i ↦ refl
  | layout.latitude i ↦ refl
  | layout.longitude i ↦ refl
  | layout.depth ↦ refl
  | layout.altitude ↦ refl
  | layout.uncertainty ↦ refl
  | layout.semi_major ↦ refl
  | layout.semi_minor ↦ refl
  | layout.orientation ↦ refl
  | layout.altitude_uncertainty ↦ refl
  | layout.confidence ↦ refl
  | layout.inner_radius ↦ refl
  | layout.offset ↦ refl
  | layout.included ↦ refl
  | layout.bearing ↦ refl
  | layout.horizontal_speed ↦ refl
  | layout.down ↦ refl
  | layout.vertical_speed ↦ refl
  | layout.speed_uncertainty ↦ refl
  | layout.vertical_uncertainty ↦ refl
]

pub velocity-said : (x : Velocity) → TakesVelocity x → {codes : List ℕ} (rest : List ℕ) → codes ≡ velocity_elements x ++ rest → Says (array_velocity_rows codes) (velocity_rows x.kind) (velocity_value_in codes) (velocity_value_of x)
velocity-said x takes rest e = subst (λ (codes : List ℕ). Says (array_velocity_rows codes) (velocity_rows x.kind) (velocity_value_in codes) (velocity_value_of x)) (sym e) (record {
  rows_same = ap velocity_rows (velocities.kind-back x.kind (motion-taken x takes).listed);
  value_same = own-elements-say x rest;
})

-- codes that the writer takes
module _ (codes : List ℕ) (takes : WriteAnswer (array_velocity_rows codes) (velocity_value_in codes) (length_of (array_velocity_rows codes)) 0) where
  pub velocity-of-codes : Says (array_velocity_rows codes) (velocity_rows (velocity_record_in codes).kind) (velocity_value_in codes) (velocity_value_of (velocity_record_in codes))
  velocity-of-codes =
      let s = (sound (array_velocity_rows codes) (velocity_value_in codes) (length_of (array_velocity_rows codes)) takes).0 in
      let k = velocity_kind_of (velocity_value_in codes layout.type_number) in
      record {
        rows_same = refl;
        value_same = λ f. sym (velocities.values_of k (velocity_value_in codes) (velocities.type-back (velocity_value_in codes layout.type_number) s.listed) (velocity-code-of k (velocity_value_in codes) s.fields) f);
      }

  pub takes-velocity : TakesVelocity (velocity_record_in codes)
  takes-velocity = as_said velocity-of-codes (λ rows value. WriteAnswer rows value (length_of rows) 0) takes

  pub velocity-same : (rest : List ℕ) (f : MessageField) → velocity_value_in (velocity_elements (velocity_record_in codes) ++ rest) f ≡ velocity_value_in codes f
  velocity-same rest f = (velocity-said (velocity_record_in codes) takes-velocity rest refl).value_same f ∙ sym (velocity-of-codes.value_same f)
