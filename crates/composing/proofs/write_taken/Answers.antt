-- What is stored of the record is what the elements say.
use mathlib.Core.Path.{◌∙◌}
use native.Mathlib.Omega.{arith}
use Rattle.judging.proofs.RoomLaws.{taken, with-room}
use Rattle.composing.proofs.ElementStores.{message_long, storable, message-stored}
use Rattle.composing.proofs.write_taken.Goals as goal

pub store_shape-requires-clause-shape_storable : goal.store_shape-requires-clause-shape_storable
store_shape-requires-clause-shape_storable c =
    let elements = c.args.codes.now in
    let s = taken c.requires.record_answer in
    let long = message_long elements s.fields c.requires.kind_value c.message_length-length.ensures in
    storable elements s.fields _ (omega (arith, c.if-out-length.false, long)) s.listed s.counted

pub returns : goal.returns
returns c =
    let elements = c.args.codes.now in
    let s = taken c.requires.record_answer in
    let long = message_long elements s.fields c.requires.kind_value c.message_length-length.ensures in
    record {
      answer = with-room _ c.requires.record_answer (omega (arith, c.if-out-length.false, long));
      written = long;
      buffer = c.store_shape.ensures ∙ message-stored elements s.fields s.listed c.args.out.now;
    }
