-- The fields of the locations passed stand behind the head field, and end at the position; so many pieces stand before.
use mathlib.Core.Path.{◌≡◌}
use Rattle.plant.specs.Tables.{pieces_before}
use Rattle.files.specs.TableFile.{location_fields}
use Rattle.integers.proofs.Filling.{Written}
use Rattle.table_files.proofs.writing.put_pieces.Given as goal

abbrev pub invariant-loop-l : goal.invariant-loop-l
invariant-loop-l l = record {
  before : l.before ≡ pieces_before l.model l.l;
  written : Written (location_fields l.model l.table) l.initial.file 7 l.l l.to l.file;
}
