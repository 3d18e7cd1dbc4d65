-- The product is small.
use Rattle.std.proofs.Common.{arith, rules}
use Rattle.plant.specs.Pieces.{pieces}
use Rattle.plant.proofs.Tables.{pieces-most}
use Rattle.tables.proofs.pieces.Goals as goal

pub overflow_mul-result-2 : goal.overflow_mul-result-2
unfolding pieces
overflow_mul-result-2 c = grind (arith, pieces-most c.args.model.now c.args.l c.requires.0.head.n_small)

pub returns : goal.returns
unfolding pieces
returns c = search rules
