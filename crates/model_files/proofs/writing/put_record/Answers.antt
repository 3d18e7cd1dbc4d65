-- The header, and the words behind it.
use native.Mathlib.Omega.{arith}
use Rattle.model_files.proofs.ModelWriting.{record_put}
use Rattle.model_files.proofs.writing.put_record.Goals as goal

pub returns : goal.returns
returns c =
    let a = c.args in
    record_put a.model.now a.tag a.from a.w c.requires.0 a.file.now _ _ a.to (omega (arith, c.requires.1)) c.payload_length.ensures c.put_header.ensures c.put_words.ensures
