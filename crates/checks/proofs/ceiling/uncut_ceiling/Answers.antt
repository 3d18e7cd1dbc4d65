-- The formula.
use Rattle.std.proofs.Common.{arith}
use Rattle.plant.specs.Tables.{uncut_ceiling}
use Rattle.checks.proofs.ceiling.uncut_ceiling.Goals as goal

pub returns : goal.returns
unfolding uncut_ceiling
returns c = (grind arith, grind arith)
