-- Both ends of variable d are compared with the wall.
use Rattle.std.proofs.Common.{rules}
use Rattle.plant.specs.Box.{low, high}
use Rattle.plant.specs.Tables.{on_wall}
use Rattle.checks.proofs.valid.on_wall.Goals as goal

pub returns : goal.returns
unfolding on_wall low high
returns c = search rules
