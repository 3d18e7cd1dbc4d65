-- By the location's cut.
use Rattle.std.proofs.Common.{rules}
use Rattle.plant.specs.Pieces.{pieces_per_face}
use Rattle.tables.proofs.Cutting.{one_joinable, one_joined}
use Rattle.tables.proofs.join_pieces.Goals as goal

pub join-requires : goal.join-requires
join-requires c = one_joinable c.args.n c.args.d c.args.from.now c.args.pieces.now c.requires c.in-None.is

pub returns-in-None : goal.returns-in-None
returns-in-None c = one_joined c.args.n c.args.d c.args.from.now c.args.pieces.now c.requires c.in-None.is c.join.ensures

pub returns-in-Some : goal.returns-in-Some
unfolding pieces_per_face
returns-in-Some c = search rules
