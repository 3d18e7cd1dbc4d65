-- The questions of those passed are all answered yes.
use Rattle.std.proofs.Common.{◌≡◌}
use Rattle.plant.specs.Ask.{first}
use Rattle.plant.specs.Questions.{location_questions}
use Rattle.model.proofs.locations_questions.Given as goal

abbrev pub invariant-loop-l : goal.invariant-loop-l
invariant-loop-l l = first l.l (location_questions l.model) ≡ 0
