-- The flag, then the box behind it.
use Prim.Native.Nat.{◌*◌}
use Rattle.files.specs.Bytes.{words_at}
use Rattle.files.proofs.Words.{length_words}
use Rattle.table_files.proofs.TableReading.{piece_filled}
use Rattle.table_files.proofs.reading.fill_piece.Goals as goal

pub returns : goal.returns
returns c =
    let a = c.args in
    piece_filled a.piece.now _ (words_at a.file.now a.from (2 * a.n)) (2 * a.n) c.requires.1 (length_words a.file.now a.from (2 * a.n)) c.copy_words.ensures
