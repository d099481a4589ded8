-- The part of out that src was copied to is src.
use Rattle.std.proofs.Common.{length, refl, ◌∙◌, append_assoc, arith}
use Rattle.std.proofs.lemmas.List.Edits.{sets-eq, paste_all}
use Rattle.std.proofs.lemmas.Slice.{put_mid-paste}
use Rattle.text.proofs.put_bytes.Goals as goal

pub returns : goal.returns
returns c =
    let src = c.args.src.now in
    let out = c.args.out.now in
    let at = c.args.at in
    record {
      content = rw (sets-eq src out at c.requires, append_assoc) (put_mid-paste at _ out _ src (length src) c.copy_from_slice.ensures.after (omega arith) refl ∙ paste_all out at src (length src) refl);
      place = refl;
    }
