-- Demand 2 for any records that rows of the layout table read and write: shapes and velocities are its two uses.
--
use Rattle.std.specs.Prelude.{Result, Ok, IfOk}
use Prim.Native.Nat.{ℕ, ◌≤◌}
use mathlib.Core.Path.{◌≡◌, refl, ap, sym, subst, ◌∙◌}
use mathlib.Core.List.{List, ◌++◌}
use native.Mathlib.Omega.{arith}
use lib.ListN.{length, take, drop}
use lib.Seq.{take_at}
use Rattle.ground.specs.Answers.{outcome_number, handed}
use Rattle.ground.proofs.AnswerLaws.{value-told}
use Rattle.ground.specs.declared.refusals.Refusal.{Refusal}
use Rattle.layout.specs.Layout.{MessageField, Row}
use Rattle.layout.specs.Rows.{read, length_of, message, spare_zero}
use Rattle.layout.specs.Demands.{CountSound, AnglesSound, ConfidenceSound, ReadAnswer, WriteAnswer, Writes, Sound}
use Rattle.layout.proofs.TidyLaws.{Tidy, read-in-fields, read-message, written-again, message-length}
use Rattle.layout.proofs.DemandLaws.{Readable, readable, read_done, sound, write_done}
use Rattle.layout.proofs.OneMessage.{read-answer-one, write-answer-one}

-- records of one sort, their rows and numbers, and what is known of them
pub record Coder (R : Type 0) : Type 1 where
  pub rows_of : R → List Row
  pub value : R → MessageField → ℕ
  pub rows_in : List ℕ → List Row
  pub record_in : List ℕ → R
  -- a record whose arrays have all their elements
  pub Whole : R → Type 0
  pub tidy_of : (x : R) → Tidy (rows_of x)
  pub tidy-in : (s : List ℕ) → Tidy (rows_in s)
  pub rows_in_lem : (s : List ℕ) → Readable (rows_in s) s → rows_of (record_in s) ≡ rows_in s
  pub values-in : (s : List ℕ) → Readable (rows_in s) s → (f : MessageField) → value (record_in s) f ≡ read s (rows_in s) f
  pub rows_back : (x : R) → Sound (rows_of x) (value x) → rows_in (message (rows_of x) (value x)) ≡ rows_of x
  pub record-back : (x : R) → Whole x → Sound (rows_of x) (value x) → (s : List ℕ) → rows_in s ≡ rows_of x → ((f : MessageField) → read s (rows_in s) f ≡ value x f) → record_in s ≡ x

module _ {R : Type 0} (c : Coder R) where
  -- ---- from octets to the record and on

  module _ (s : List ℕ) (h : Readable (c.rows_in s) s) where
    values : c.value (c.record_in s) ≡ read s (c.rows_in s)
    values = λ i f. c.values-in s h f i

    -- the record in a message is sound
    pub sound-in : Sound (c.rows_of (c.record_in s)) (c.value (c.record_in s))
    sound-in =
        subst (λ (rows : List Row). Sound rows (c.value (c.record_in s))) (sym (c.rows_in_lem s h))
        (subst (λ (v : MessageField → ℕ). Sound (c.rows_in s) v) (sym values)
        (record { listed = h.listed; counted = h.counted; angles = h.angles; sure = h.sure; fields = read-in-fields s (c.rows_in s) }))

    -- and its message has the octets' own rows, and spare bits zero
    pub message-in : message (c.rows_of (c.record_in s)) (c.value (c.record_in s)) ≡ spare_zero (c.rows_in s) s
    message-in =
        ap (λ (rows : List Row). message rows (c.value (c.record_in s))) (c.rows_in_lem s h)
        ∙ ap (λ (v : MessageField → ℕ). message (c.rows_in s) v) values
        ∙ written-again (c.rows_in s) (c.tidy-in s) s

    length-in : length_of (c.rows_of (c.record_in s)) ≡ length s
    length-in = ap length_of (c.rows_in_lem s h) ∙ sym h.long

  -- ---- from the record to octets and back

  module _ (x : R) (h : Sound (c.rows_of x) (c.value x)) where
    sent : List ℕ
    sent = message (c.rows_of x) (c.value x)

    sent-value : (f : MessageField) → read sent (c.rows_in sent) f ≡ c.value x f
    unfolding sent
    sent-value f =
        ap (λ (rows : List Row). read (message (c.rows_of x) (c.value x)) rows f) (c.rows_back x h)
        ∙ read-message (c.rows_of x) (c.tidy_of x) (c.value x) h.fields f

    -- a sound record's message is read
    pub readable-sent : Readable (c.rows_in (message (c.rows_of x) (c.value x))) (message (c.rows_of x) (c.value x))
    unfolding sent
    readable-sent =
        let m = message (c.rows_of x) (c.value x) in
        let long = message-length (c.rows_of x) (c.value x) in
        let same : read m (c.rows_in m) ≡ c.value x = λ i f. sent-value f i in
        subst (λ (rows : List Row). (v : MessageField → ℕ) → v ≡ c.value x → read m rows ≡ v → Readable rows m) (sym (c.rows_back x h))
        (λ v e d. record {
          some = omega (arith, h.listed, long);
          listed = h.listed;
          counted = subst (λ (w : MessageField → ℕ). CountSound (c.rows_of x) w) (sym (d ∙ e)) h.counted;
          long = long;
          angles = subst (λ (w : MessageField → ℕ). AnglesSound (c.rows_of x) w) (sym (d ∙ e)) h.angles;
          sure = subst (λ (w : MessageField → ℕ). ConfidenceSound (c.rows_of x) w) (sym (d ∙ e)) h.sure;
        })
        (c.value x) refl same

    -- as the record itself
    pub record-sent : c.Whole x → c.record_in (message (c.rows_of x) (c.value x)) ≡ x
    unfolding sent
    record-sent whole = c.record-back x whole h (message (c.rows_of x) (c.value x)) (c.rows_back x h) sent-value

  -- ---- DEMAND 2, over the promises

  -- octets s were answered r
  pub record Read (s : List ℕ) (r : Result R Refusal) : Type 0 where
    pub answer : ReadAnswer (c.rows_in s) s (outcome_number r)
    pub handed-back : IfOk r (λ x. x ≡ c.record_in s)

  module _ (s : List ℕ) (x : R) (read-s : Read s (Ok x)) where
    is-readable : Readable (c.rows_in s) s
    is-readable = readable (c.rows_in s) s read-s.answer

    long : length_of (c.rows_of x) ≡ length s
    long = ap (λ (y : R). length_of (c.rows_of y)) read-s.handed-back ∙ length-in s is-readable

    -- every record that is read is one that the writer takes, room given
    pub taken : (before after : List ℕ) (w : Result ℕ Refusal) → Writes (c.rows_of x) (c.value x) before after w → length s ≤ length before → w ≡ Ok (length s)
    taken before after w writes room =
        let answer : WriteAnswer (c.rows_of x) (c.value x) (length before) 0 =
        subst (λ (y : R). WriteAnswer (c.rows_of y) (c.value y) (length before) 0) (sym read-s.handed-back)
        (write_done _ _ (length before) (sound-in s is-readable) (rw (length-in s is-readable) room)) in
        value-told (WriteAnswer (c.rows_of x) (c.value x) (length before)) (write-answer-one (c.rows_of x) (c.value x) (length before))
        (λ n. n ≡ length_of (c.rows_of x)) (λ m n e f. e ∙ sym f) w (Ok (length s)) writes.answer answer writes.written (sym long)

    pub accepted : WriteAnswer (c.rows_of x) (c.value x) (length_of (c.rows_of x)) 0
    accepted =
        subst (λ (y : R). WriteAnswer (c.rows_of y) (c.value y) (length_of (c.rows_of y)) 0) (sym read-s.handed-back)
        (write_done _ _ _ (sound-in s is-readable) (omega arith))

    -- written again, a message gives its own octets with the spare bits zero, and the rest of the buffer as it was
    pub again : (before after : List ℕ) (w : Result ℕ Refusal) → Writes (c.rows_of x) (c.value x) before after w → length s ≤ length before → after ≡ spare_zero (c.rows_in s) s ++ drop (length s) before
    again before after w writes room =
        let e = read-s.handed-back in
        writes.buffer
        ∙ ap (λ (v : Result ℕ Refusal). handed v (message (c.rows_of x) (c.value x) ++ drop (length_of (c.rows_of x)) before) before) (taken before after w writes room)
        ∙ ap (λ (y : R). message (c.rows_of y) (c.value y) ++ drop (length_of (c.rows_of y)) before) e
        ∙ ap (λ (m : List ℕ). m ++ drop (length_of (c.rows_of (c.record_in s))) before) (message-in s is-readable)
        ∙ ap (λ (n : ℕ). spare_zero (c.rows_in s) s ++ drop n before) (length-in s is-readable)

    -- two messages of one record are the same but for spare bits
    pub same-but-spare : (t : List ℕ) → Read t (Ok x) → spare_zero (c.rows_in s) s ≡ spare_zero (c.rows_in t) t
    same-but-spare t read-t =
        sym (message-in s is-readable)
        ∙ ap (λ (y : R). message (c.rows_of y) (c.value y)) (sym read-s.handed-back ∙ read-t.handed-back)
        ∙ message-in t (readable (c.rows_in t) t read-t.answer)

  -- a record that is written, and read from the octets of its message, is that record
  pub back : (x : R) (before after : List ℕ) (w : Result ℕ Refusal) (n : ℕ) (r : Result R Refusal) → c.Whole x → Writes (c.rows_of x) (c.value x) before after w → w ≡ Ok n → Read (take n after) r
      → r ≡ Ok x
  back x before after w n r whole writes done read-t =
      let own : Writes (c.rows_of x) (c.value x) before after (Ok n) = subst (λ (v : Result ℕ Refusal). Writes (c.rows_of x) (c.value x) before after v) done writes in
      let h = (sound (c.rows_of x) (c.value x) (length before) own.answer).0 in
      let m = message (c.rows_of x) (c.value x) in
      let t : take n after ≡ m =
      ap (λ (k : ℕ). take k after) own.written ∙ ap (λ (a : List ℕ). take (length_of (c.rows_of x)) a) own.buffer
      ∙ take_at m (drop (length_of (c.rows_of x)) before) (length_of (c.rows_of x)) (message-length (c.rows_of x) (c.value x)) in
      let read-m : Read m r = subst (λ (s : List ℕ). Read s r) t read-t in
      value-told (ReadAnswer (c.rows_in m) m) (read-answer-one (c.rows_in m) m) (λ y. y ≡ c.record_in m) (λ y z e f. e ∙ sym f)
      r (Ok x) read-m.answer (read_done (c.rows_in m) m (readable-sent x h)) read-m.handed-back (sym (record-sent x h whole))
