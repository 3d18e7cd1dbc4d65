use Rattle.std.proofs.Common.{arith}
use Rattle.delays.proofs.Small.{into_small}
use Rattle.delays.proofs.variable_delays.Goals as goal

pub returns-clause-small : goal.returns-clause-small
returns-clause-small c = grind (arith, into_small)
