-- The questions of those passed are all answered yes.
use Rattle.std.proofs.Common.{◌≡◌}
use Rattle.plant.specs.Ask.{first}
use Rattle.plant.specs.Questions.{forbidden_question}
use Rattle.model.proofs.forbidden_questions.Given as goal

abbrev pub invariant-loop-b : goal.invariant-loop-b
invariant-loop-b l = first l.b (forbidden_question l.model) ≡ 0
