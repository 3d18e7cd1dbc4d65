-- One without a cut, two with one.
use Rattle.std.proofs.Common.{rules}
use Rattle.plant.specs.Pieces.{pieces_per_face}
use Rattle.tables.proofs.pieces_per_face.Goals as goal

pub returns-in-None : goal.returns-in-None
unfolding pieces_per_face
returns-in-None c = search rules

pub returns-in-Some : goal.returns-in-Some
unfolding pieces_per_face
returns-in-Some c = search rules
