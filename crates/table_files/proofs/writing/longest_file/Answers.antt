-- A field for each piece, behind the head field.
use native.Mathlib.Omega.{arith}
use Rattle.files.proofs.TableSizes.{pieces_few}
use Rattle.table_files.proofs.TableWriting.{size_few, longest_made}
use Rattle.table_files.proofs.writing.longest_file.Goals as goal

pub field_place-requires : goal.field_place-requires
field_place-requires c = (omega (arith, c.pieces_from.ensures), omega (arith, size_few _ c.requires c.any_cut.ensures c.variables.ensures c.field_size-size.ensures), omega (arith, c.piece_count.ensures, pieces_few _ c.requires))

pub returns : goal.returns
returns c = longest_made _ c.requires c.any_cut.ensures c.variables.ensures c.field_size-size.ensures c.pieces_from.ensures c.piece_count.ensures c.field_place.ensures
