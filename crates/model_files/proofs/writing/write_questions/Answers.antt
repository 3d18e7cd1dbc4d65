-- 40, once the model's questions are yes.
use mathlib.Core.Path.{sym}
use Rattle.plant.proofs.Passed.{passed}
use Rattle.plant.proofs.Passing.{whole_passed}
use Rattle.model_files.proofs.writing.write_questions.Goals as goal

pub file_length-length-requires : goal.file_length-length-requires
file_length-length-requires c = whole_passed _ (passed _ (sym c.in_ok-questions.ensures))
