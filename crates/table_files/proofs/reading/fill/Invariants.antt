-- The table has the pieces of the fields passed, each put over the words of its place.
use mathlib.Core.Path.{◌≡◌}
use Rattle.plant.specs.Tables.{table_by}
use Rattle.files.specs.TableFile.{file_face}
use Rattle.table_files.proofs.reading.fill.Given as goal

abbrev pub invariant-loop-i : goal.invariant-loop-i
invariant-loop-i l = l.table ≡ table_by l.model (file_face l.model l.file l.i)
