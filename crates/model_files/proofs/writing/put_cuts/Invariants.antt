-- The fields of the cuts of the locations passed stand behind those of the records, and end at the position.
use Rattle.integers.proofs.Filling.{Written}
use Rattle.files.specs.ModelFile.{cuts_from}
use Rattle.files.proofs.ModelLength.{cut_field_of}
use Rattle.model_files.proofs.writing.put_cuts.Given as goal

abbrev pub invariant-loop-l : goal.invariant-loop-l
invariant-loop-l l = Written (cut_field_of l.model) l.initial.file (cuts_from l.model) l.l l.to l.file
