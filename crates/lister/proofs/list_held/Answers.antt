-- What is listed is what list_some finds in what is held, and that is written.
use Rattle.lister.proofs.TurnLaws.{turned, text-found, text-put}
use borrow.Author.Rules.{rules}
use Rattle.lister.proofs.list_held.Goals as goal

pub write_listed-sink-requires : goal.write_listed-sink-requires
write_listed-sink-requires c = record { text_value = text-put c.args.buf.now c.args.held c.filled-fill.result c.is_over-last.result c.list_some-listed.result c.filled-fill.ensures c.is_over-last.ensures c.list_some-listed.ensures c.list_some-listed.auto.out; closed_value = search rules }

pub returns : goal.returns
returns c =
    turned c.args.buf.now c.args.held c.filled-fill.result c.is_over-last.result c.list_some-listed.result c.over-ended.result c.write_listed-sink.result c.is_closed.result
    c.filled-fill.ensures c.is_over-last.ensures c.over-ended.ensures c.is_closed.ensures c.requires.sound c.list_some-listed.ensures
    (text-found c.args.buf.now c.args.held c.filled-fill.result c.is_over-last.result c.list_some-listed.result c.filled-fill.ensures c.is_over-last.ensures c.list_some-listed.ensures) c.write_listed-sink.ensures
