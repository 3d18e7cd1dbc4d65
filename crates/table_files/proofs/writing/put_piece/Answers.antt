-- An absent piece writes nothing; a present one its header, place and box, each behind the one before.
use mathlib.Core.Path.{◌≡◌, ap, ◌∙◌}
use native.Mathlib.Omega.{arith}
use Rattle.std.proofs.lemmas.Int.{ints}
use mathlib.Core.Bool.{true, false}
use lib.IntN.{pos}
use Rattle.integers.specs.Words.{word, eq_z}
use Rattle.files.specs.Fields.{payload_length}
use Rattle.table_files.proofs.Cuts.{size_is}
use Rattle.table_files.proofs.TableWriting.{field_size_is, piece_skip, skip_next, piece_put, piece_next}
use Rattle.table_files.proofs.writing.put_piece.Goals as goal

pub returns-then-piece-ne1 : goal.returns-then-piece-ne1
returns-then-piece-ne1 c =
    let a = c.args in
    let absent : eq_z (word a.piece.now 0) (pos 1) ≡ false = grind (arith, ints) in
    record {
      bytes = piece_skip a.model.now a.piece.now a.l a.q c.requires.long a.file.now a.to absent (omega (arith, c.requires.room));
      next = skip_next a.model.now a.piece.now a.l a.q c.requires.long a.to absent;
    }

pub put_place-requires : goal.put_place-requires
put_place-requires c = (c.requires.is_piece, omega (arith, c.requires.room, size_is _ c.requires.is_piece.cut_is, c.put_header.auto.out))

pub put_words-requires : goal.put_words-requires
put_words-requires c = (omega (arith, c.requires.long, c.variables-n.ensures), omega (arith, c.requires.room, size_is _ c.requires.is_piece.cut_is, c.variables-n.ensures, c.place_size.ensures, c.payload_length-2.ensures, c.put_header.auto.out, c.put_place.auto.file))

pub returns : goal.returns
returns c =
    let a = c.args in
    let p = c.requires.is_piece in
    let present : eq_z (word a.piece.now 0) (pos 1) ≡ true = grind (arith, ints) in
    let n = c.variables-n.ensures in
    let size = field_size_is _ p.whole p.cut_is n c.field_size-size.ensures in
    record {
      bytes =
          piece_put a.model.now a.piece.now a.l a.q c.requires.long a.file.now c.put_header.new.out c.put_place.new.file _ a.to present (omega (arith, c.requires.room))
          (c.payload_length.ensures ∙ ap payload_length size) (c.payload_length-2.ensures ∙ ap payload_length (c.place_size.ensures ∙ size_is _ p.cut_is)) n c.put_header.ensures c.put_place.ensures c.put_words.ensures;
      next = piece_next a.model.now a.piece.now a.l a.q c.requires.long a.to present size c.field_length.ensures;
    }
