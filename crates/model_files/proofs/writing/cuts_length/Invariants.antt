-- The bytes are those of the fields of the locations passed.
use mathlib.Core.Path.{◌≡◌}
use lib.ListN.{length}
use Rattle.integers.specs.Counted.{cat}
use Rattle.files.proofs.ModelLength.{cut_field_of}
use Rattle.model_files.proofs.writing.cuts_length.Given as goal

abbrev pub invariant-loop-l : goal.invariant-loop-l
invariant-loop-l l = l.bytes ≡ length (cat l.l (cut_field_of l.model))
