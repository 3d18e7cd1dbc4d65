-- The questions of those passed are all answered yes.
use Rattle.std.proofs.Common.{◌≡◌}
use Rattle.plant.specs.Ask.{first}
use Rattle.plant.specs.Questions.{switch_questions}
use Rattle.model.proofs.switches_questions.Given as goal

abbrev pub invariant-loop-e : goal.invariant-loop-e
invariant-loop-e l = first l.e (switch_questions l.model) ≡ 0
