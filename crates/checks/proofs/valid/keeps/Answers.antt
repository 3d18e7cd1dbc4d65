-- By the cut: none, of the face's own variable, the first piece of another face, the second.
use Rattle.std.proofs.Common.{rules}
use Rattle.plant.specs.Box.{low, high}
use Rattle.plant.specs.Pieces.{extent_by, keeps_to}
use Rattle.checks.proofs.valid.keeps.Goals as goal

pub returns-in-None : goal.returns-in-None
unfolding extent_by keeps_to low high
returns-in-None c = search rules

pub returns-in-Some : goal.returns-in-Some
unfolding extent_by keeps_to low high
returns-in-Some c = search rules

pub returns-in-Some-2 : goal.returns-in-Some-2
unfolding extent_by keeps_to low high
returns-in-Some-2 c = search rules

pub returns-in-Some-3 : goal.returns-in-Some-3
unfolding extent_by keeps_to low high
returns-in-Some-3 c = search rules
