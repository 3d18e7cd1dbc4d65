-- The header, the count, then the fields.
use mathlib.Core.Path.{◌∙◌}
use Prim.Native.Nat.{◌<◌}
use native.Mathlib.Omega.{arith}
use mir.Syntax.{w32}
use mir.Facts.{to_z_pos}
use Rattle.integers.proofs.Signed.{fits32}
use Rattle.files.proofs.TableSizes.{longest_least, length_of_file}
use Rattle.table_files.proofs.TableWriting.{present_few, file_put}
use Rattle.table_files.proofs.writing.put_table.Goals as goal

pub put_header-requires : goal.put_header-requires
put_header-requires c =
    (omega (arith, c.payload_length.ensures), omega (arith, longest_least c.args.model.now, c.requires.bytes))

pub overflow_cast-present_pieces : goal.overflow_cast-present_pieces
overflow_cast-present_pieces c =
    fits32 (omega (arith, c.present_pieces.ensures, present_few c.args.model.now c.args.table.now c.requires.whole))

pub put_word-requires : goal.put_word-requires
put_word-requires c =
    omega (arith, longest_least c.args.model.now, c.requires.bytes, c.put_header.auto.out)

pub returns : goal.returns
returns c =
    let a = c.args in
    let p = c.present_pieces in
    let few : p.result < 2147483648 = omega (arith, p.ensures, present_few a.model.now a.table.now c.requires.whole) in
    record {
      bytes =
          file_put a.model.now a.table.now a.file.now c.put_header.new.out c.put_word.new.out _ c.payload_length.ensures c.put_header.ensures
          (rw (to_z_pos w32 {n = p.result} few, p.ensures) at c.put_word.ensures) c.put_pieces.ensures.bytes;
      count = c.put_pieces.ensures.end ∙ length_of_file a.model.now a.table.now;
    }
