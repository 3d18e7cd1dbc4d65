-- The fields passed are the due ones.
use mathlib.Core.Path.{◌≡◌}
use Rattle.files.specs.ModelFile.{run_questions}
use Rattle.model_files.proofs.run_questions.Given as goal

abbrev pub invariant-loop-i : goal.invariant-loop-i
invariant-loop-i l = run_questions l.file l.run.from l.i l.run.tag l.run.w ≡ 0
