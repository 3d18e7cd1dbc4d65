-- After a yes to 2 to 4 the head may be read.
use mathlib.Core.Path.{sym}
use Rattle.plant.proofs.Passing.{head_passed}
use Rattle.model_files.proofs.sizes_questions.Goals as goal

pub size-requires : goal.size-requires
size-requires c = head_passed _ c.requires (sym c.in_ok-ranges_questions.ensures)
