-- Each return is one case of the checker's questions; those of the table are asked of the list's first words (`Front`).
use mathlib.Core.Path.{ap, ◌∙◌}
use Rattle.std.proofs.Common.{arith}
use Rattle.std.proofs.lemmas.Grind.{common_steps}
use Rattle.plant.specs.Ask.{◌then◌}
use Rattle.plant.specs.Calls.{verdict_by, checker_questions, check_call}
use Rattle.plant.proofs.Passed.{passed}
use Rattle.plant.proofs.Front.{questions_front}
use Rattle.analysis.proofs.Calls.{verdict_is}
use Rattle.analysis.proofs.check.Goals as goal

pub returns : goal.returns
unfolding check_call checker_questions ◌then◌
returns c = verdict_is _ ∙ ap verdict_by (grind (arith, common_steps, passed, questions_front))
