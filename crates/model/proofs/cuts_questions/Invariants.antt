-- The questions of those passed are all answered yes.
use Rattle.std.proofs.Common.{◌≡◌}
use Rattle.plant.specs.Ask.{first}
use Rattle.plant.specs.Questions.{cut_question}
use Rattle.model.proofs.cuts_questions.Given as goal

abbrev pub invariant-loop-l : goal.invariant-loop-l
invariant-loop-l l = first l.l (cut_question l.model) ≡ 0
