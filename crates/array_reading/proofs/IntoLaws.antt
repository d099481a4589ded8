-- From what a reader hands back to what is put into the array.
use Rattle.std.specs.Prelude.{Ok, Err}
use Prim.Native.Nat.{ℕ, ◌+◌, ◌*◌, ◌-◌, ◌≤◌, ◌<◌}
use mathlib.Core.Path.{◌≡◌, refl, sym, ◌∙◌, subst}
use mathlib.Core.List.{List, ◌++◌}
use native.Mathlib.Omega.{arith}
use lib.ListN.{length, get_or, drop, replicate, get_or-append}
use lib.Seq.{sets}
use Rattle.ground.specs.declared.refusals.Refusal.{Refusal}
use Rattle.ground.specs.declared.refusals.Refusal.TheVariants.{BufferTooShort}
use Rattle.layout.specs.declared.shape.Kind.{Kind}
use Rattle.layout.specs.declared.shape.Kind.TheVariants.{Nothing, Point, Circle, Ellipse, Polygon, AltitudePoint, AltitudeEllipsoid, Arc}
use Rattle.layout.specs.declared.shape.Shape.{Shape}
use Rattle.layout.specs.Layout.{count}
use Rattle.layout.specs.Rows.{read}
use Rattle.layout.specs.Shapes.{upto, ReadsShape}
use Rattle.layout.proofs.ShapeRecords.{length-upto, at-upto}
use Rattle.ground.specs.Answers.{met}
use Rattle.ground.proofs.AnswerLaws.{when-done}
use Rattle.octets.specs.Bits.{bits}
use Rattle.layout.proofs.PolygonLaws.{polygon-length}
use Rattle.fetching.specs.Fetching.{rows_for, shape_of_kind, polygon_of}
use Rattle.fetching.proofs.PolygonRecord.{polygon-record}
use Rattle.forming.specs.Forming.{MessageFormAnswer}
use Rattle.forming.proofs.ReadLaws.{Starts, of_length, done-read}
use Rattle.code_arrays.proofs.PutLaws.{no_room, has_room}
use Rattle.code_arrays.specs.Shapes.{single_elements, point_elements, Ended}
use Rattle.code_arrays.proofs.PointLaws.{shape-put}
use Rattle.layout.specs.declared.velocity.Velocity.{Velocity}
use Rattle.layout.specs.Velocities.{ReadsVelocity}
use Rattle.code_arrays.specs.Velocities.{velocity_elements}
use Rattle.array_reading.specs.Reading.{ReadsInto, ReadsMotionInto}
use Rattle.array_reading.proofs.EndLaws.{ended}

module _ {s before : List ℕ} where
  pub refused-into : (why : Refusal) → ReadsShape s (Err why) → ReadsInto s before before (Err why)
  refused-into why p = record { read = Err why; promise = p; roomed = refl; array = refl }

  module _ (x : Shape) (p : ReadsShape s (Ok x)) where
    pub short-into : length before < 61 → ReadsInto s before before (Err BufferTooShort)
    short-into h = record { read = Ok x; promise = p; roomed = no_room 61 (length before) h; array = refl }

    pub put-into : {after : List ℕ} (n : ℕ) → x.count ≡ n → 61 ≤ length before
        → after ≡ sets (sets (sets before 0 (single_elements x)) 16 (point_elements x.latitudes x.longitudes n)) (16 + 3 * n) (replicate (45 - 3 * n) 0) → ReadsInto s before after (Ok tt)
    put-into n c h e = record {
      read = Ok x;
      promise = p;
      roomed = has_room 61 (length before) h;
      array = e ∙ shape-put x (subst (λ (m : ℕ). Ended x.latitudes x.longitudes m) c (ended s x p)) before h;
    }

-- a shape that has no points has no count
pub uncounted : (s : List ℕ) (k : Kind) → (k ≡ Polygon → ⊥) → read s (rows_for k s) count ≡ 0
uncounted s Nothing o = refl
uncounted s Point o = refl
uncounted s Circle o = refl
uncounted s Ellipse o = refl
uncounted s Polygon o = absurd (o refl)
uncounted s AltitudePoint o = refl
uncounted s AltitudeEllipsoid o = refl
uncounted s Arc o = refl

-- the point i of the first n
pub point_at : {A : Type 0} (f : ℕ → A) (n : ℕ) (z : A) (i : ℕ) → i < n → get_or (upto n f ++ replicate (15 - n) z) i z ≡ f i
point_at f n z i h = get_or-append (upto n f) (replicate (15 - n) z) z i (omega (arith, length-upto f n)) ∙ at-upto f n i z h

-- ---- a polygon

module _ {s : List ℕ} {n : ℕ} (first : Starts s Polygon n) (a : MessageFormAnswer Polygon n (length s) 0) where
  pub few-points : n ≤ 15
  few-points =
      let l = when-done _ 2 _ (λ e. absurd (omega arith)) a in
      let m = when-done _ 4 _ (λ e. absurd (omega arith)) l.1 in
      m.0.most (omega arith)

  pub long_enough : 1 + 6 * n ≤ length s
  long_enough = let l = of_length s Polygon n first a in omega (arith, l, polygon-length (bits s 4 4), first.count)

  pub polygon-read : ReadsShape s (Ok (polygon_of n s))
  polygon-read =
      done-read s Polygon n first a (polygon_of n s)
      (subst (λ (m : ℕ). m ≤ 15 → polygon_of m s ≡ shape_of_kind Polygon s) (sym first.count) (polygon-record s) few-points)
      (met (omega arith, omega arith, omega arith) (met (omega arith) refl))

-- ---- a velocity

module _ {s before : List ℕ} where
  pub motion-refused : (why : Refusal) → ReadsVelocity s (Err why) → ReadsMotionInto s before before (Err why)
  motion-refused why p = record { read = Err why; promise = p; roomed = refl; array = refl }

  module _ (x : Velocity) (p : ReadsVelocity s (Ok x)) where
    pub motion-short : length before < 7 → ReadsMotionInto s before before (Err BufferTooShort)
    motion-short h = record { read = Ok x; promise = p; roomed = no_room 7 (length before) h; array = refl }

    pub motion-put : {after : List ℕ} → 7 ≤ length before → after ≡ velocity_elements x ++ drop 7 before → ReadsMotionInto s before after (Ok tt)
    motion-put h e = record { read = Ok x; promise = p; roomed = has_room 7 (length before) h; array = e }
