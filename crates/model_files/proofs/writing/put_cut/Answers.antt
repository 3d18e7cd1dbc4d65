-- Of a cut location the header, the location, and the cut's words, each behind the one before.
use native.Mathlib.Omega.{arith}
use mir.Facts.{to_z_pos}
use mir.Syntax.{w32}
use Rattle.plant.proofs.Positions.{cut-within}
use Rattle.model_files.proofs.ModelWriting.{cut_length, cut_put}
use Rattle.model_files.proofs.writing.put_cut.Goals as goal

pub put_words-requires : goal.put_words-requires
put_words-requires c =
    (omega (arith, cut-within _ c.requires.whole _ c.requires.location), omega (arith, c.requires.room, cut_length _ _ c.if-not-is_cut.ensures))

pub returns-clause-bytes : goal.returns-clause-bytes
returns-clause-bytes c =
    let a = c.args in
    let w = c.requires.whole in
    let el = to_z_pos w32 {n = a.l} (omega (arith, c.requires.location, w.head.L_small)) in
    cut_put a.model.now a.l c.if-not-is_cut.ensures a.file.now _ _ _ a.to w c.requires.location c.cut_at-at.ensures (omega (arith, c.requires.room)) c.payload_length.ensures c.put_header.ensures (rw el at c.put_word.ensures) c.put_words.ensures
