-- So far the words of i fields are copied.
use mathlib.Core.Path.{◌≡◌}
use mathlib.Core.List.{◌++◌}
use lib.ListN.{take}
use Rattle.integers.specs.Words.{onto}
use Rattle.files.specs.ModelFile.{run_words}
use Rattle.model_files.proofs.copy_run.Given as goal

abbrev pub invariant-loop-i : goal.invariant-loop-i
invariant-loop-i l = l.words ≡ onto (take l.run.place l.initial.words ++ run_words l.file l.run.from l.i l.run.w) l.initial.words
