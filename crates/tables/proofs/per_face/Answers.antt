-- By the location's cut.
use Rattle.std.proofs.Common.{rules}
use Rattle.plant.specs.Pieces.{per_face}
use Rattle.tables.proofs.per_face.Goals as goal

pub returns : goal.returns
unfolding per_face
returns c = search rules
