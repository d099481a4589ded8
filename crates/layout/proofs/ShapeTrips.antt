-- DEMAND 2 FOR SHAPES, over the promises of reading and writing: for any coder that keeps them.
use Rattle.std.specs.Prelude.{Result, Ok}
use Rattle.std.proofs.lemmas.Result.{IfOk-at_ok, IfOk-weaker}
use Prim.Native.Nat.{ℕ, zero, suc, ◌≤◌, ◌<◌}
use mathlib.Core.Path.{◌≡◌, refl, ap, sym, subst, ◌∙◌}
use mathlib.Core.List.{List, ◌++◌}
use native.Mathlib.Omega.{arith}
use lib.ListN.{length, take, drop}
use Rattle.ground.specs.Answers.{outcome_number}
use Rattle.ground.specs.declared.refusals.Refusal.{Refusal}
use Rattle.octets.specs.Bits.{bits}
use Rattle.octets.proofs.BitLaws.{bits-lt}
use Rattle.layout.specs.declared.shape.Kind.{Kind}
use Rattle.layout.specs.declared.shape.Kind.TheVariants.{Nothing, Point, Circle, Ellipse, Polygon, AltitudePoint, AltitudeEllipsoid, Arc}
use Rattle.layout.specs.declared.shape.Shape.{Shape}
use Rattle.layout.specs.Layout.{MessageField, Row, type_number, count, south, latitude, longitude, shape_rows, type_of}
use Rattle.layout.specs.Rows.{tag, read, length_of, message, spare_zero}
use Rattle.layout.specs.Demands.{TypeKnown, ReadAnswer, WriteAnswer, Sound}
use Rattle.layout.specs.Shapes.{kind_of, kind_in, rows_in, shape_in, latitude_of, longitude_of, shape_of, value_of, rows_of, ReadsShape, WritesShape, Fifteen}
use Rattle.layout.specs.Messages.{SameButSpare}
use Rattle.layout.proofs.SpareReading.{spare-numbers, spare-answer}
use Rattle.layout.proofs.TidyLaws.{read-bits, read-in-fields, read-message}
use Rattle.layout.proofs.KindLaws.{points_of, no-point-width, shape-tidy}
use Rattle.layout.proofs.DemandLaws.{Readable}
use Rattle.layout.proofs.WidthLaws.{code_of}
use Rattle.layout.proofs.ShapeRecords.{length-upto, values_of, shape-of-values}
use Rattle.layout.proofs.Trips.{Coder, Read, sound-in, message-in, readable-sent, record-sent, taken, accepted, again, same-but-spare, back}

-- ---- the type and the count

type-read : (k : Kind) (s : List ℕ) (n : ℕ) → TypeKnown (shape_rows k n) → read s (shape_rows k n) type_number ≡ bits s 0 4
type-read Nothing s n h = absurd (omega arith)
type-read Point s n h = refl
type-read Circle s n h = refl
type-read Ellipse s n h = refl
type-read Polygon s n h = refl
type-read AltitudePoint s n h = refl
type-read AltitudeEllipsoid s n h = refl
type-read Arc s n h = refl

pub kind-back : (k : Kind) (n : ℕ) → TypeKnown (shape_rows k n) → kind_of (type_of k) ≡ k
kind-back Nothing n h = absurd (omega arith)
kind-back Point n h = refl
kind-back Circle n h = refl
kind-back Ellipse n h = refl
kind-back Polygon n h = refl
kind-back AltitudePoint n h = refl
kind-back AltitudeEllipsoid n h = refl
kind-back Arc n h = refl

pub type-back : (t n : ℕ) → TypeKnown (shape_rows (kind_of t) n) → type_of (kind_of t) ≡ t
type-back zero n h = refl
type-back (suc zero) n h = refl
type-back (suc (suc zero)) n h = absurd (omega arith)
type-back (suc (suc (suc zero))) n h = refl
type-back (suc (suc (suc (suc zero)))) n h = absurd (omega arith)
type-back (suc (suc (suc (suc (suc zero))))) n h = refl
type-back (suc (suc (suc (suc (suc (suc zero)))))) n h = absurd (omega arith)
type-back (suc (suc (suc (suc (suc (suc (suc zero))))))) n h = absurd (omega arith)
type-back (suc (suc (suc (suc (suc (suc (suc (suc zero)))))))) n h = refl
type-back (suc (suc (suc (suc (suc (suc (suc (suc (suc zero))))))))) n h = refl
type-back (suc (suc (suc (suc (suc (suc (suc (suc (suc (suc zero)))))))))) n h = refl
type-back (suc (suc (suc (suc (suc (suc (suc (suc (suc (suc (suc t))))))))))) n h = absurd (omega arith)

-- only a polygon's rows depend on the count, and it stands in bits 4 to 1
same_rows : (k : Kind) (s : List ℕ) (c : ℕ) → read s (shape_rows k c) count ≡ c → shape_rows k (bits s 4 4) ≡ shape_rows k c
same_rows Nothing s c e = refl
same_rows Point s c e = refl
same_rows Circle s c e = refl
same_rows Ellipse s c e = refl
same_rows Polygon s c e = ap (shape_rows Polygon) e
same_rows AltitudePoint s c e = refl
same_rows AltitudeEllipsoid s c e = refl
same_rows Arc s c e = refl

own-rows : (k : Kind) (s : List ℕ) → shape_rows k (read s (shape_rows k (bits s 4 4)) count) ≡ shape_rows k (bits s 4 4)
own-rows Nothing s = refl
own-rows Point s = refl
own-rows Circle s = refl
own-rows Ellipse s = refl
own-rows Polygon s = refl
own-rows AltitudePoint s = refl
own-rows AltitudeEllipsoid s = refl
own-rows Arc s = refl

-- ---- from octets

points-most : (k : Kind) (n : ℕ) → n < 16 → points_of k n ≤ 15
points-most Nothing n h = omega arith
points-most Point n h = omega arith
points-most Circle n h = omega arith
points-most Ellipse n h = omega arith
points-most Polygon n h = omega arith
points-most AltitudePoint n h = omega arith
points-most AltitudeEllipsoid n h = omega arith
points-most Arc n h = omega arith

module _ (s : List ℕ) where
  no_bits : (first w : ℕ) → w ≡ 0 → bits s first w ≡ 0
  unfolding bits
  no_bits first w e = rw e

  -- a field of a point after the fifteenth
  no_more : (f : MessageField) → 67 ≤ tag f → read s (rows_in s) f ≡ 0
  no_more f h =
      let l = points-most (kind_in s) (bits s 4 4) (bits-lt s 4 4) in
      read-bits s (rows_in s) f ∙ no_bits _ _ (no-point-width (kind_in s) (bits s 4 4) f (omega arith) (omega arith))

  values-in : Readable (rows_in s) s → (f : MessageField) → value_of (shape_in s) f ≡ read s (rows_in s) f
  values-in h = values_of (kind_in s) (read s (rows_in s))
      (type-back (bits s 0 4) (bits s 4 4) h.listed ∙ sym (type-read (kind_in s) s (bits s 4 4) h.listed))
      (code_of (kind_in s) (bits s 4 4) (read s (rows_in s)) (read-in-fields s (rows_in s)))
      (λ i l. (no_more (south (suc i)) (omega arith), no_more (latitude (suc i)) (omega arith), no_more (longitude (suc i)) (omega arith)))

-- ---- to octets

module _ (x : Shape) (h : Sound (rows_of x) (value_of x)) where
  sent : (f : MessageField) → read (message (rows_of x) (value_of x)) (rows_of x) f ≡ value_of x f
  sent = read-message (rows_of x) (shape-tidy x.kind x.count) (value_of x) h.fields

  kind-of : (s : List ℕ) → bits s 0 4 ≡ type_of x.kind → kind_in s ≡ x.kind
  kind-of s e = ap kind_of e ∙ kind-back x.kind x.count h.listed

  rows_back : rows_in (message (rows_of x) (value_of x)) ≡ rows_of x
  rows_back =
      let m = message (rows_of x) (value_of x) in
      let k : kind_in m ≡ x.kind = kind-of m (sym (type-read x.kind m x.count h.listed) ∙ sent type_number) in
      ap (λ (j : Kind). shape_rows j (bits m 4 4)) k ∙ same_rows x.kind m x.count (sent count)

  record-back : Fifteen x → (s : List ℕ) → rows_in s ≡ rows_of x → ((f : MessageField) → read s (rows_in s) f ≡ value_of x f) → shape_in s ≡ x
  record-back fifteen s e same =
      let listed : TypeKnown (rows_in s) = subst (λ (rows : List Row). TypeKnown rows) (sym e) h.listed in
      let k : kind_in s ≡ x.kind = kind-of s (sym (type-read (kind_in s) s (bits s 4 4) listed) ∙ same type_number) in
      ap (λ (j : Kind). shape_of j (read s (rows_in s))) k
      ∙ ap (shape_of x.kind) (λ i f. same f i)
      ∙ shape-of-values x fifteen (code_of x.kind x.count (value_of x) h.fields)

-- ---- DEMAND 2

shapes : Coder Shape
shapes = record {
  rows_of = rows_of;
  value = value_of;
  rows_in = rows_in;
  record_in = shape_in;
  Whole = Fifteen;
  tidy_of = λ x. shape-tidy x.kind x.count;
  tidy-in = λ s. shape-tidy (kind_in s) (bits s 4 4);
  rows_in_lem = λ s h. own-rows (kind_in s) s;
  values-in = values-in;
  rows_back = rows_back;
  record-back = λ x fifteen h. record-back x h fifteen;
}

-- the record in a message that is read: the writer takes it, and it gives the message's own octets with the spare bits zero
module _ (s : List ℕ) (h : Readable (rows_in s) s) where
  pub sound-read : Sound (rows_of (shape_in s)) (value_of (shape_in s))
  unfolding shapes
  sound-read = sound-in shapes s h

  pub message-read : message (rows_of (shape_in s)) (value_of (shape_in s)) ≡ spare_zero (rows_in s) s
  unfolding shapes
  message-read = message-in shapes s h

  pub rows-read : rows_of (shape_in s) ≡ rows_in s
  rows-read = own-rows (kind_in s) s

pub fifteen-read : (s : List ℕ) → Fifteen (shape_in s)
fifteen-read s =
    let v = read s (rows_in s) in
    record { all_latitudes = length-upto (λ i. latitude_of v (suc i)) 15; all_longitudes = length-upto (λ i. longitude_of v (suc i)) 15 }

-- the message of a record that the writer takes is read, as that record
module _ (x : Shape) (h : Sound (rows_of x) (value_of x)) where
  pub readable-message : Readable (rows_in (message (rows_of x) (value_of x))) (message (rows_of x) (value_of x))
  unfolding shapes
  readable-message = readable-sent shapes x h

  pub record-message : Fifteen x → shape_in (message (rows_of x) (value_of x)) ≡ x
  unfolding shapes
  record-message = record-sent shapes x h

as_read : (s : List ℕ) (r : Result Shape Refusal) → ReadsShape s r → Read shapes s r
unfolding shapes
as_read s r h = record { answer = h.answer; handed-back = h.shape }

done-read : (s : List ℕ) (r : Result Shape Refusal) → ReadsShape s r → (x : Shape) → r ≡ Ok x → Read shapes s (Ok x)
done-read s r h x e = subst (λ (q : Result Shape Refusal). Read shapes s q) e (as_read s r h)

module _ (s : List ℕ) (r : Result Shape Refusal) (h : ReadsShape s r) (x : Shape) (done : r ≡ Ok x) where
  module _ (before after : List ℕ) (w : Result ℕ Refusal) (writes : WritesShape x before after w) (room : length s ≤ length before) where
    -- every record that the reader hands out is one that the writer takes, room given
    pub shape-taken : w ≡ Ok (length s)
    unfolding shapes
    shape-taken = taken shapes s x (done-read s r h x done) before after w writes room

    -- an accepted message written again gives its own octets with the spare bits zero; the other octets keep their values
    pub shape-again : after ≡ spare_zero (rows_in s) s ++ drop (length s) before
    unfolding shapes
    shape-again = again shapes s x (done-read s r h x done) before after w writes room

  pub shape-accepted : WriteAnswer (rows_of x) (value_of x) (length_of (rows_of x)) 0
  unfolding shapes
  shape-accepted = accepted shapes s x (done-read s r h x done)

  -- its arrays have their fifteen elements
  pub shape-whole : Fifteen x
  shape-whole = subst Fifteen (sym (IfOk-at_ok (λ y. y ≡ shape_in s) done h.shape)) (fifteen-read s)

  -- two messages with the same record are the same but for spare bits
  pub shape-same-but-spare : (t : List ℕ) (q : Result Shape Refusal) → ReadsShape t q → q ≡ Ok x → spare_zero (rows_in s) s ≡ spare_zero (rows_in t) t
  unfolding shapes
  shape-same-but-spare t q g end = same-but-spare shapes s x (done-read s r h x done) t (done-read t q g x end)

-- a record that the writer takes, written and read, gives that record
pub shape-back : (x : Shape) (before after : List ℕ) (w : Result ℕ Refusal) (n : ℕ) (r : Result Shape Refusal) → Fifteen x → WritesShape x before after w → w ≡ Ok n → ReadsShape (take n after) r
    → r ≡ Ok x
unfolding shapes
shape-back x before after w n r fifteen writes done h = back shapes x before after w n r fifteen writes done (as_read (take n after) r h)

-- two strings that differ in spare bits alone get the same answer and the same record
module _ (s t : List ℕ) (same : SameButSpare (rows_in s) s t) where
  kinds-same : kind_in t ≡ kind_in s
  kinds-same = ap kind_of (sym same.types)

  rows_same : rows_in t ≡ rows_in s
  rows_same =
      let own = own-rows (kind_in s) s in
      let counted : read t (shape_rows (kind_in s) (read s (rows_in s) count)) count ≡ read s (rows_in s) count =
      ap (λ (rows : List Row). read t rows count) own ∙ ap (λ (number : MessageField → ℕ). number count) (sym (spare-numbers (rows_in s) s t same)) in
      ap (λ (k : Kind). shape_rows k (bits t 4 4)) kinds-same ∙ same_rows (kind_in s) t (read s (rows_in s) count) counted ∙ own

  pub shape-spare : (r : Result Shape Refusal) → ReadsShape s r → ReadsShape t r
  shape-spare r h =
      let numbers : read t (rows_in t) ≡ read s (rows_in s) = ap (read t) rows_same ∙ sym (spare-numbers (rows_in s) s t same) in
      let shapes-same : shape_in t ≡ shape_in s = λ i. shape_of (kinds-same i) (numbers i) in
      record {
        answer = subst (λ (rows : List Row). ReadAnswer rows t (outcome_number r)) (sym rows_same) (spare-answer (rows_in s) s t same _ h.answer);
        shape = IfOk-weaker r (λ x. x ≡ shape_in s) (λ x. x ≡ shape_in t) (λ x e. e ∙ sym shapes-same) h.shape;
      }
